use Rattle.std.proofs.Common.{arith}
use Rattle.std.proofs.lemmas.Grind.{common_steps}
use Rattle.yurewha_c.proofs.subtree_flat.write_nodes.Goals as goal

pub nodes-preserved : goal.nodes-preserved
nodes-preserved g = grind (arith, common_steps)
