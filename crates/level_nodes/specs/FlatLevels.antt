-- The nodes of all levels in one list: the left nodes of all levels, lowest level first, the nodes between the sides, and
-- the right nodes of all levels, highest level first; and for each level the numbers of nodes on both sides. A subtree has
-- no nodes between, and a range proof has its chunks there.
use Rattle.std.specs.Prelude.{◌≡◌, ℕ, ◌+◌, List, [], ◌∷◌, ◌++◌, length, map, sum_by}
use Rattle.xet_roots.specs.Groups.{Node}
use Rattle.level_nodes.specs.Level.{Level}

-- the left nodes of all levels, lowest level first
abbrev pub left_nodes : List Level → List Node
left_nodes [] = []
left_nodes (level ∷ levels) = level.left ++ left_nodes levels

-- the right nodes of all levels, highest level first
abbrev pub right_nodes : List Level → List Node
right_nodes [] = []
right_nodes (level ∷ levels) = right_nodes levels ++ level.right

-- all nodes in the order of the list
abbrev pub flat_nodes : List Level → List Node → List Node
flat_nodes levels between = left_nodes levels ++ (between ++ right_nodes levels)

-- the numbers of left and right nodes of a level
abbrev pub count_of : Level → ℕ × ℕ
count_of level = (length level.left, length level.right)

-- the sum of all counts
abbrev pub count_sum : List (ℕ × ℕ) → ℕ
count_sum counts = sum_by (λ count. count.0 + count.1) counts

-- some counts and nodes are those of some levels with these nodes between
pub record IsFlat (counts : List (ℕ × ℕ)) (nodes : List Node) (levels : List Level) (between : List Node) : Type 0 where
  pub counts_are : counts ≡ map count_of levels
  pub nodes_are : nodes ≡ flat_nodes levels between
