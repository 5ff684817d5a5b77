use Rattle.std.proofs.Common.{◌≡◌, ◌<◌, ◌^◌, take}
use Rattle.subtree_levels.specs.Levels.{node_count}
use Rattle.subtree_levels.proofs.levels.count_nodes.Given as goal

abbrev pub invariant-levels : goal.invariant-levels
invariant-levels g l = (l.count ≡ node_count (take l.level-index l.levels)) × (l.count < 2 ^ 64)
