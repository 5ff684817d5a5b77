-- Levels of a canonical subtree and of a merge while they are built, and what a subtree stores. Only private contracts
-- and proofs use them.
use Rattle.std.specs.Prelude.{◌≡◌, ℕ, ◌+◌, ◌^◌, ◌<◌, ◌≤◌, Bool, false, List, [], ◌∷◌, ◌++◌, length}
use Rattle.xet_roots.specs.Groups.{Node}
use Rattle.xet_roots.specs.Roots.{total_size}
use Rattle.subtree_levels.specs.Levels.{Level, top_nodes, node_count, levels_size}
use Rattle.subtree_levels.specs.Canonical.{IsCanonicalBy}
use Rattle.subtree_levels.specs.Subtree.{Subtree}
use Rattle.subtree_levels.specs.WellFormed.{IsWellFormed}
use Rattle.xet_roots.specs.Steps.Scan.{AreParents}
use Rattle.subtree_levels.specs.Steps.LevelMerging.{HaveSides, Sight, sight_up, IsSightSplit, IsSightMerge, levels_of, inner_side, lowest_with}
use Rattle.subtree_levels.specs.declared.levels.Operand.{Operand}
use Rattle.xet_roots.specs.Steps.Room.{most_made}

-- the levels of two subtrees that can be merged, under these outer marks
pub record AreOperands (at_start at_end : Bool) (xs ys : List Level) : Type 0 where
  pub sides_x : HaveSides at_start false xs
  pub sides_y : HaveSides false at_end ys
  pub top_x : 1 < length xs → 0 < length (top_nodes xs)
  pub top_y : 1 < length ys → 0 < length (top_nodes ys)

-- put below the canonical subtree of `nodes`, these levels and the work already done make that of `all`
abbrev pub StandBelow : (List Node → Node) → Bool → Bool → List Node → List Level → ℕ → List Node → Type 0
StandBelow make at_start at_end all levels done nodes = (top : List Level) (work : ℕ) →
    IsCanonicalBy make at_start at_end nodes top work → IsCanonicalBy make at_start at_end all (levels ++ top) (done + work)

-- levels with those of the canonical subtree of some nodes on top, and the number of parents made before and after
abbrev pub AddsCanonical : (List Node → Node) → Bool → Bool → List Node → List Level → ℕ → List Level → ℕ → Type 0
AddsCanonical make at_start at_end nodes levels made all now =
    (top : List Level) × (work : ℕ) × IsCanonicalBy make at_start at_end nodes top work × (all ≡ levels ++ top) × (now ≡ made + work)

-- put below the merge of `rest`, these levels and the work already done make the merge of `sight`
abbrev pub MergeBelow : (List Node → Node) → Sight → List Level → ℕ → Sight → Type 0
MergeBelow make sight levels done rest = (top : List Level) (work : ℕ) →
    IsSightMerge make rest top work → IsSightMerge make sight (levels ++ top) (done + work)

-- both operands in sight have levels, all sizes fit 64 bits, and the maker can still make the remaining parents
pub record CanMerge (made : ℕ) (sight : Sight) : Type 0 where
  pub some_front : 0 < length sight.front
  pub some_back : 0 < length sight.back
  pub fits : levels_size sight.front + (total_size sight.carry + levels_size sight.back) < 2 ^ 64
  pub room : made + (length sight.carry + ((node_count sight.front + length sight.front) + (node_count sight.back + length sight.back))) ≤ most_made

-- one level of a merge, below the top of an operand: the nodes that stay towards the other operand were pushed onto the
-- sides, and the parents of the rest are carried in what is in sight next
pub record MergesLevel (make : List Node → Node) (kept : Operand) (sight : Sight) (sides : List (List Node)) (next : Sight) (more : List (List Node)) : Type 0 where
  pub left : List Node
  pub middle : List Node
  pub right : List Node
  pub split : IsSightSplit sight left middle right
  pub parents : AreParents make middle next.carry
  pub above : next ≡ sight_up 1 sight next.carry
  pub pushed : more ≡ sides ++ inner_side kept left right ∷ []

-- the lowest levels of an operand, all below its top, keep these sides towards the other one. This many parents were made,
-- and what is then in sight can be merged
pub record MergesLower (make : List Node → Node) (kept : Operand) (whole : Sight) (sides : List (List Node)) (made : ℕ) (sight : Sight) : Type 0 where
  pub within : length sides < length (levels_of kept whole)
  pub up : sight ≡ sight_up (length sides) whole sight.carry
  pub below : MergeBelow make whole (lowest_with kept sides (levels_of kept whole)) made sight
  pub can_merge : CanMerge made sight

-- two subtrees can be merged: no mark is between them, and both their sizes and their numbers of nodes add up to less
-- than 2 ^ 64. The outer marks and the sum of the sizes are those of the merged one.
pub record AreMergeable (front back : Subtree) (at_start at_end : Bool) (size : ℕ) : Type 0 where
  pub front_is : IsWellFormed front
  pub back_is : IsWellFormed back
  pub no_end : front.at_end ≡ false
  pub no_start : back.at_start ≡ false
  pub start : at_start ≡ front.at_start
  pub end : at_end ≡ back.at_end
  pub size_is : size ≡ levels_size front.levels + levels_size back.levels
  pub fits : size < 2 ^ 64
  pub few : node_count front.levels + node_count back.levels < 2 ^ 64

-- what a subtree stores besides its marks: levels, and the sum of the sizes; this sum and the number of nodes fit 64
-- bits
pub record IsStored (at_start at_end : Bool) (levels : List Level) (size : ℕ) : Type 0 where
  pub well_formed : IsWellFormed (record { at_start = at_start; at_end = at_end; levels = levels })
  pub size_is : size ≡ levels_size levels
  pub fits : size < 2 ^ 64
  pub few : node_count levels < 2 ^ 64
