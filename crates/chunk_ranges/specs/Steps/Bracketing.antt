-- The leaves of a bracketing in order, each with the number of joins that begin with it, and how they are joined.
use Rattle.std.specs.Prelude.{◌≡◌, ℕ, zero, suc, ◌+◌, ◌-◌, ◌≤◌, List, [], ◌∷◌, ◌++◌, Option, Some, None, length, Box}
use Rattle.std.specs.declared.alloc.Global.{Global}
use Rattle.chunk_ranges.specs.declared.merge_tree.MergeTree.{MergeTree}
use Rattle.chunk_ranges.specs.declared.merge_tree.MergeTree.TheVariants.{Leaf, Join'}
use Rattle.chunk_ranges.specs.declared.merge_tree.Turned.{Turned}
use Rattle.chunk_ranges.specs.declared.merge_tree.Turned.TheVariants.{Taken, Lowered}
use Rattle.chunk_ranges.specs.MergeTree.{leaves}

-- the leaves of a tree, if `begun` joins have begun with the first of them before
abbrev pub entries : {R A : Type 0} → ℕ → MergeTree R A → List (ℕ × R)
entries begun (Leaf range) = (begun, range) ∷ []
entries begun (Join' p left q right) = entries (suc begun) left ++ entries 0 right

-- the same if `links` of the joins along the tree's right side have begun before
abbrev pub entries_after : {R A : Type 0} → ℕ → ℕ → MergeTree R A → List (ℕ × R)
entries_after begun links (Leaf range) = (begun, range) ∷ []
entries_after begun zero (Join' p left q right) = entries (suc begun) left ++ entries 0 right
entries_after begun (suc links) (Join' p left q right) = entries begun left ++ entries_after 0 links right

-- the number of values after entries are joined, the last first, if there were `values` before; and whether each join
-- finds its back operand
abbrev pub depth : {R : Type 0} → List (ℕ × R) → ℕ → ℕ
depth [] values = values
depth (entry ∷ more) values = depth more values - entry.0 + 1

abbrev pub AreBegun : {R : Type 0} → List (ℕ × R) → ℕ → Type 0
AreBegun [] values = Unit {0}
AreBegun (entry ∷ more) values = (entry.0 ≤ depth more values) × AreBegun more values

-- two trees are turned: the first is a leaf, and the second is left; or both are one tree that begins with the first
-- one's first part
abbrev pub TurnsTo : {R A : Type 0} → MergeTree R A → MergeTree R A → Turned R A → Type 0
TurnsTo left right (Taken range rest) = (left ≡ Leaf range) × (right ≡ rest)
TurnsTo {R} {A} left right (Lowered tree) = (first second : MergeTree R A) × (p q s t : Box (Unit {0}) Global)
    × (left ≡ Join' p first q second) × (tree ≡ Join' p first s (Join' q second t right))

-- the join at the top has begun, now or before
abbrev pub IsBegun : ℕ → ℕ → ℕ → ℕ → Type 0
IsBegun begun zero now links = (now ≡ begun + 1) × (links ≡ 1)
IsBegun begun (suc before) now links = (now ≡ begun) × (links ≡ suc before)

-- what is there now follows from what was there before
abbrev pub Follow : {X : Type 0} → Option X → Option X → (X → X → Type 0) → Type 0
Follow old None P = Unit {0}
Follow None (Some new) P = ⊥
Follow (Some old) (Some new) P = P old new

-- the leaves on the left of each join
abbrev pub lefts : {R A : Type 0} → MergeTree R A → ℕ
lefts (Leaf range) = 0
lefts (Join' p left q right) = length (leaves left) + (lefts left + lefts right)
