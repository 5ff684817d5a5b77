use Rattle.range_proof.proofs.Completeness.Proved.{well_formed}
use Rattle.range_proof.proofs.laws.range_proofs_are_well_formed.Goals as goal

pub returns : goal.returns
returns c = well_formed
