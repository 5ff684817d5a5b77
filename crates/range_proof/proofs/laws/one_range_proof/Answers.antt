use Rattle.range_proof.proofs.Completeness.Exists.{IsProofOf-exists}
use Rattle.range_proof.proofs.Completeness.OneProof.{IsProofOf-unique}
use Rattle.range_proof.proofs.laws.one_range_proof.Goals as goal

pub returns-clause-exists : goal.returns-clause-exists
returns-clause-exists c = IsProofOf-exists

pub returns-clause-unique : goal.returns-clause-unique
returns-clause-unique c = IsProofOf-unique
