use Rattle.std.proofs.Common.{◌≡◌, ◌+◌, ◌<◌, ◌≤◌, ◌^◌, length, map}
use Rattle.xet_roots.specs.Roots.{total_size, parent_by}
use Rattle.xet_roots.specs.Steps.Scan.{MadeSoFar}
use Rattle.xet_roots.proofs.as_node.parents_of.Given as goal

abbrev pub invariant-pieces : goal.invariant-pieces
invariant-pieces g l = record {
  so_far : MadeSoFar (parent_by g.P.ParentMaker.hash_of) (map g.T.AsNode.node_of l.nodes) l.made.items (map g.T.AsNode.node_of l.rest);
  fits : total_size (map g.T.AsNode.node_of l.rest) ≤ total_size (map g.T.AsNode.node_of l.nodes);
  count : g.P.ParentMaker.count l.maker ≡ g.P.ParentMaker.count l.fn.maker + length l.made.items;
  few : length l.made.items + length l.rest < 2 ^ 64;
}

abbrev pub decreases-pieces : goal.decreases-pieces
decreases-pieces g l = length l.rest
