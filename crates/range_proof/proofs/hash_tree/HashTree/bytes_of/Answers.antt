use Rattle.std.proofs.Common.{arith}
use Rattle.std.proofs.lemmas.Grind.{common_steps}
use Rattle.range_proof.proofs.hash_tree.HashTree.bytes_of.Goals as goal

pub returns : goal.returns
returns g c = grind (arith, common_steps)
