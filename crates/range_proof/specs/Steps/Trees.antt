-- What a hash tree keeps of its levels. Only private contracts and proofs use it.
use Rattle.std.specs.Prelude.{◌≡◌, ℕ, ◌-◌, ◌^◌, ◌<◌, ◌≤◌, List, [], ◌∷◌, ◌++◌, length, map, take, drop, slice_index_or}
use Rattle.xet_roots.specs.Groups.{Node, Groups}
use Rattle.xet_roots.specs.Roots.{total_size, parent}
use Rattle.level_nodes.specs.Level.{Level}
use Rattle.range_proof.specs.RangeProof.{AreSides, joined}
use Rattle.range_proof.specs.Steps.Places.{ArePlaces, AreBounds}

-- a level has two nodes or more, and the bounds are those of its groups
pub record IsLevelKept (nodes : List Node) (bounds : List ℕ) : Type 0 where
  pub two : 2 ≤ length nodes
  pub bounds_are : (groups : List (List Node)) → Groups nodes groups → AreBounds groups bounds

-- the levels of two nodes or more over some nodes, and the top: each level is the parents of the groups below it
abbrev pub IsTree : List (List Node) → List Node → List Node → Type 0
IsTree [] top nodes = (nodes ≡ top) × (length nodes ≤ 1)
IsTree (level ∷ levels) top nodes =
    (nodes ≡ level) × (2 ≤ length nodes) × ((groups : List (List Node)) × Groups nodes groups × IsTree levels top (map parent groups))

-- the lowest level
abbrev pub lowest : List (List Node) → List Node → List Node
lowest [] top = top
lowest (level ∷ levels) top = level

-- what a tree keeps: its levels, its top, and where its chunks are
pub record IsKept (levels : List (List Node)) (top : List Node) (places : List ℕ) : Type 0 where
  pub tree : IsTree levels top (lowest levels top)
  pub places_are : ArePlaces 0 (lowest levels top) places
  pub fits : total_size (lowest levels top) < 2 ^ 64

-- the sides of a range of nodes on their level, and the range of the groups that it lies in
pub record IsBeside (nodes : List Node) (groups : List (List Node)) (first end : ℕ) (sides : Level) (from to : ℕ) : Type 0 where
  pub order : from < to
  pub within : to ≤ length groups
  pub left_is : take first nodes ≡ joined (take from groups) ++ sides.left
  pub right_is : drop end nodes ≡ sides.right ++ joined (drop to groups)
  pub short_left : length sides.left < length (slice_index_or groups from [])
  pub short_right : length sides.right < length (slice_index_or groups (to - 1) [])

-- the sides of a range of nodes on their level and those above
abbrev pub AreSidesOf : List Node → ℕ → ℕ → List Level → Type 0
AreSidesOf nodes first end levels = AreSides (take first nodes) (take (end - first) (drop first nodes)) (drop end nodes) levels
