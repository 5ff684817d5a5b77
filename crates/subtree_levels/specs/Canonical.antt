-- The canonical subtree of a list of nodes, as in the module `merklehash::merkle_hash_subtree` of the crate
-- `xet-core-structures`.
use Rattle.std.specs.Prelude.{◌≡◌, ℕ, ◌+◌, ◌≤◌, Bool, true, false, List, [], ◌∷◌, ◌++◌, length, map}
use Rattle.xet_roots.specs.Groups.{Node, Groups}
use Rattle.stable_points.specs.StablePoints.{IsFirstStable, IsLastStable}
use Rattle.subtree_levels.specs.Levels.{Level}

-- the lower end of the middle: the start of the list if it is marked, or else the first stable point
abbrev pub IsLow : Bool → List Node → List Node → Type 0
IsLow true left rest = left ≡ []
IsLow false left rest = IsFirstStable left rest

-- the upper end of the middle: the end of the list if it is marked, or else the last stable point of the nodes from the
-- lower end on
abbrev pub IsHigh : Bool → List Node → List Node → Type 0
IsHigh true middle right = right ≡ []
IsHigh false middle right = IsLastStable middle right

-- the split of a list of at least two nodes under marks: what stays on the left, the middle, which is collapsed, and
-- what stays on the right
pub record IsSplit (at_start at_end : Bool) (nodes left middle right : List Node) : Type 0 where
  pub parts : nodes ≡ left ++ (middle ++ right)
  pub several : 2 ≤ length nodes
  pub low : IsLow at_start left (middle ++ right)
  pub high : IsHigh at_end middle right

-- the canonical subtree of a list under marks, and its work, the number of parents that are made for it; `make` makes
-- the parent of a group. Without a split there is one level, with all nodes on the left. With a split, the first level
-- has its left and right, and the other levels are the canonical subtree of the parents of the middle's groups.
pub data IsCanonicalBy (make : List Node → Node) (at_start at_end : Bool) : List Node → List Level → ℕ → Type 0 where
  whole : {nodes : List Node} →
      ((left middle right : List Node) → ¬ (IsSplit at_start at_end nodes left middle right)) →
      IsCanonicalBy make at_start at_end nodes (record { left = nodes; right = [] } ∷ []) 0
  collapsed : {nodes left middle right : List Node} {groups : List (List Node)} {levels : List Level} {work : ℕ} →
      IsSplit at_start at_end nodes left middle right → Groups middle groups →
      IsCanonicalBy make at_start at_end (map make groups) levels work →
      IsCanonicalBy make at_start at_end nodes (record { left = left; right = right } ∷ levels) (length groups + work)
