use Rattle.std.proofs.Common.{◌≡◌, ◌+◌, ◌++◌, ◌≤◌, ◌-◌, length, take, drop}
use Rattle.xet_roots.specs.Roots.{total_size, parent}
use Rattle.xet_roots.specs.Steps.Scan.{MadeSoFar}
use Rattle.xet_roots.proofs.aggregated_hashes.shrink_several.Given as goal

abbrev pub invariant-batches : goal.invariant-batches
invariant-batches g l = record {
  written : l.made ≤ l.read;
  within : l.read ≤ length l.nodes.items;
  so_far : MadeSoFar parent l.fn.nodes.items (take l.made l.nodes.items) (drop l.read l.nodes.items);
  fits : total_size (drop l.read l.nodes.items) ≤ total_size l.fn.nodes.items;
}

abbrev pub decreases-batches : goal.decreases-batches
decreases-batches g l = length l.nodes.items - l.read

abbrev pub invariant-parents : goal.invariant-parents
invariant-parents g l = record {
  size : length l.nodes.items ≡ length l.initial.nodes.items;
  front : take (l.made + l.j) l.nodes.items ≡ take l.made l.initial.nodes.items ++ take l.j l.parents;
  back : drop (l.made + l.count) l.nodes.items ≡ drop (l.made + l.count) l.initial.nodes.items;
}
