-- The levels of a subtree: what it keeps of each level on both sides, from the chunks up, as in the module
-- `merklehash::merkle_hash_subtree` of the crate `xet-core-structures`.
use Rattle.std.specs.Prelude.{ℕ, ◌+◌, List, [], ◌∷◌, ◌++◌, length}
use Rattle.xet_hash.specs.Hash.{default_hash}
use Rattle.xet_roots.specs.Groups.{Node}
use Rattle.xet_roots.specs.Roots.{total_size}
pub use Rattle.level_nodes.specs.Level.{Level, no_level, left_at, right_at}

-- the last level
abbrev pub top_of : List Level → Level
top_of [] = no_level
top_of (top ∷ []) = top
top_of (level ∷ next ∷ levels) = top_of (next ∷ levels)

-- all levels but the last
abbrev pub below_top : List Level → List Level
below_top [] = []
below_top (top ∷ []) = []
below_top (level ∷ next ∷ levels) = level ∷ below_top (next ∷ levels)

-- the nodes of the last of some levels
abbrev pub top_nodes : List Level → List Node
top_nodes [] = []
top_nodes (level ∷ []) = level.left ++ level.right
top_nodes (level ∷ next ∷ levels) = top_nodes (next ∷ levels)

-- the hash of the first of some nodes, or the default hash
abbrev pub hash_of_first : List Node → List ℕ
hash_of_first [] = default_hash
hash_of_first (node ∷ nodes) = node.0

-- the hash at the top of some levels
abbrev pub top_hash : List Level → List ℕ
top_hash levels = hash_of_first (top_nodes levels)

-- the number of nodes in some levels
abbrev pub node_count : List Level → ℕ
node_count [] = 0
node_count (level ∷ levels) = length level.left + length level.right + node_count levels

-- the sum of the sizes of all nodes of some levels
abbrev pub levels_size : List Level → ℕ
levels_size [] = 0
levels_size (level ∷ levels) = total_size level.left + total_size level.right + levels_size levels
