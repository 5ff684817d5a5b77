use Rattle.std.proofs.Common.{take}
use Rattle.std.specs.List.{AllByRecursion as Each}
use Rattle.subtree_levels.specs.Steps.LevelSides.{HasSide}
use Rattle.subtree_levels.proofs.level_rules.each_has_side.Given as goal

abbrev pub invariant-levels : goal.invariant-levels
invariant-levels g l = Each (HasSide l.side) (take l.level-index l.levels)
