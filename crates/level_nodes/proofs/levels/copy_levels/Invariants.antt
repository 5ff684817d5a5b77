use Rattle.std.proofs.Common.{◌≡◌, take}
use Rattle.level_nodes.proofs.levels.copy_levels.Given as goal

abbrev pub invariant-levels : goal.invariant-levels
invariant-levels g l = l.copy.items ≡ take l.level-index l.levels
