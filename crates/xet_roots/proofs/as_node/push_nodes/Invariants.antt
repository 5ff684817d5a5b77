use Rattle.std.proofs.Common.{◌≡◌, ◌++◌, map, take}
use Rattle.xet_roots.proofs.as_node.push_nodes.Given as goal

abbrev pub invariant-nodes : goal.invariant-nodes
invariant-nodes g l = l.read.items ≡ l.fn.read.items ++ map g.T.AsNode.node_of (take l.node-index l.nodes)
