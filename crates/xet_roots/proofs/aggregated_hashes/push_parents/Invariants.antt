use Rattle.std.proofs.Common.{◌≡◌, ◌+◌, ◌<◌, ◌≤◌, ◌^◌, length}
use Rattle.xet_roots.specs.Roots.{total_size, parent_by}
use Rattle.xet_roots.proofs.Roots.Making.{PushedSoFar}
use Rattle.xet_roots.proofs.aggregated_hashes.push_parents.Given as goal

abbrev pub invariant-batches : goal.invariant-batches
invariant-batches g l = record {
  so_far : PushedSoFar (parent_by g.P.ParentMaker.hash_of) l.nodes l.fn.made.items l.made.items l.rest;
  fits : total_size l.rest ≤ total_size l.nodes;
  count : g.P.ParentMaker.count l.maker + length l.fn.made.items ≡ g.P.ParentMaker.count l.fn.maker + length l.made.items;
  few : length l.made.items + length l.rest < 2 ^ 64;
}

abbrev pub decreases-batches : goal.decreases-batches
decreases-batches g l = length l.rest

abbrev pub invariant-groups : goal.invariant-groups
invariant-groups g l = record {
  so_far : PushedSoFar (parent_by g.P.ParentMaker.hash_of) l.nodes l.fn.made.items l.made.items l.rest;
  fits : total_size l.rest ≤ total_size l.nodes;
  count : g.P.ParentMaker.count l.maker + length l.fn.made.items ≡ g.P.ParentMaker.count l.fn.maker + length l.made.items;
  few : length l.made.items + length l.rest < 2 ^ 64;
}

abbrev pub decreases-groups : goal.decreases-groups
decreases-groups g l = length l.rest
