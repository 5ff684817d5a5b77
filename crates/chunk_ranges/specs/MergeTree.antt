-- The ranges of a bracketing, from left to right.
use Rattle.std.specs.Prelude.{List, [], ◌∷◌, ◌++◌}
use Rattle.chunk_ranges.specs.declared.merge_tree.MergeTree.{MergeTree}
use Rattle.chunk_ranges.specs.declared.merge_tree.MergeTree.TheVariants.{Leaf, Join'}

-- the ranges from left to right; in a pattern each `Box` has two parts, the pointer and the value
abbrev pub leaves : {R A : Type 0} → MergeTree R A → List R
leaves (Leaf range) = range ∷ []
leaves (Join' p left q right) = leaves left ++ leaves right

-- the first and the last of them
abbrev pub first_leaf : {R A : Type 0} → MergeTree R A → R
first_leaf (Leaf range) = range
first_leaf (Join' p left q right) = first_leaf left

abbrev pub last_leaf : {R A : Type 0} → MergeTree R A → R
last_leaf (Leaf range) = range
last_leaf (Join' p left q right) = last_leaf right
