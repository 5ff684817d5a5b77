-- What making a subtree from flat lists gives. Only private contracts and proofs use it.
use Rattle.std.specs.Prelude.{◌≡◌, ℕ, ◌^◌, ◌<◌, Bool, List, []}
use Rattle.xet_roots.specs.Groups.{Node}
use Rattle.level_nodes.specs.FlatLevels.{IsFlat}
use Rattle.subtree_levels.specs.Levels.{levels_size}
use Rattle.subtree_levels.specs.Subtree.{Subtree}
use Rattle.subtree_levels.specs.WellFormed.{IsWellFormed}

-- a subtree has these marks, counts and nodes, and keeps the rules 5 to 13
pub record IsMadeOf (at_start at_end : Bool) (counts : List (ℕ × ℕ)) (nodes : List Node) (subtree : Subtree) : Type 0 where
  pub start : subtree.at_start ≡ at_start
  pub end : subtree.at_end ≡ at_end
  pub flat : IsFlat counts nodes subtree.levels []
  pub well_formed : IsWellFormed subtree
  pub fits : levels_size subtree.levels < 2 ^ 64
