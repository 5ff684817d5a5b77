use Rattle.range_proof.proofs.JsonOf.{IsWellFormed-read, HasHashes-read}
use Rattle.range_proof.proofs.laws.json_says_well_formed_range_proofs.Goals as goal

pub returns-clause-well_formed : goal.returns-clause-well_formed
returns-clause-well_formed c = IsWellFormed-read

pub returns-clause-hashes : goal.returns-clause-hashes
returns-clause-hashes c = HasHashes-read
