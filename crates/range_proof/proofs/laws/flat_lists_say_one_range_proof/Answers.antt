use Rattle.range_proof.proofs.FlatOf.{one_flat_proof}
use Rattle.range_proof.proofs.laws.flat_lists_say_one_range_proof.Goals as goal

pub returns : goal.returns
returns c = one_flat_proof
