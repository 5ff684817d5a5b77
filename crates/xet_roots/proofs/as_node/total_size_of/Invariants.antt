use Rattle.std.proofs.Common.{◌≡◌, ◌<◌, ◌^◌, take}
use Rattle.std.specs.Prelude.{sum_by}
use Rattle.xet_roots.proofs.as_node.total_size_of.Given as goal

abbrev pub invariant-sizes : goal.invariant-sizes
invariant-sizes g l = (l.total ≡ sum_by (λ node. (g.T.AsNode.node_of node).1) (take l.node-index l.nodes)) × (l.total < 2 ^ 64)
