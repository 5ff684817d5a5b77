-- The requirements for the sides of a level below the top, as the code checks them. Only private contracts use them.
use Rattle.std.specs.Prelude.{◌≡◌, []}
use Rattle.subtree_levels.specs.declared.level_rules.Side.{Side}
use Rattle.subtree_levels.specs.declared.level_rules.Side.TheVariants.{NoLeft, NoRight, Left, Right}
use Rattle.subtree_levels.specs.Levels.{Level}
use Rattle.subtree_levels.specs.WellFormed.{IsLeftSide, IsRightSide}

-- a level meets a requirement
abbrev pub HasSide : Side → Level → Type 0
HasSide NoLeft level = level.left ≡ []
HasSide NoRight level = level.right ≡ []
HasSide Left level = IsLeftSide level.left
HasSide Right level = IsRightSide level.right
