use Rattle.std.proofs.Common.{◌≡◌, ◌≤◌, length, map, take, drop}
use Rattle.level_nodes.specs.FlatLevels.{count_sum, count_of, flat_nodes}
use Rattle.level_nodes.proofs.flat.cut_levels.Given as goal

abbrev pub invariant-levels : goal.invariant-levels
invariant-levels g l = record {
  nodes : l.nodes ≡ flat_nodes l.levels.items l.between;
  counts : map count_of l.levels.items ≡ take l.count-index l.counts;
  adds_up : count_sum (drop l.count-index l.counts) ≤ length l.between;
}
