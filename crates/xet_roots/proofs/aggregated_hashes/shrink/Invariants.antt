use Rattle.std.proofs.Common.{◌≤◌, ◌-◌, length, take, drop}
use Rattle.xet_roots.specs.Roots.{total_size, parent}
use Rattle.xet_roots.specs.Steps.Scan.{MadeSoFar}
use Rattle.xet_roots.proofs.aggregated_hashes.shrink.Given as goal

abbrev pub invariant-groups : goal.invariant-groups
invariant-groups g l = record {
  written : l.made ≤ l.read;
  within : l.read ≤ length l.nodes.items;
  so_far : MadeSoFar parent l.fn.nodes.items (take l.made l.nodes.items) (drop l.read l.nodes.items);
  fits : total_size (drop l.read l.nodes.items) ≤ total_size l.fn.nodes.items;
}

abbrev pub decreases-groups : goal.decreases-groups
decreases-groups g l = length l.nodes.items - l.read
