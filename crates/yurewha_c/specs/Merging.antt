-- The result of merging the subtrees of handles.
use Rattle.std.specs.Prelude.{◌≡◌, ◌⊎◌, ◌↔◌, ℕ, ◌+◌, ◌^◌, ◌≤◌, false, Option, None, List, [], ◌∷◌, flat_map, IsSomeAnd}
use Rattle.xet_merkle.specs.Groups.{Node}
use Rattle.xet_merkle.specs.Levels.{levels_size}
use Rattle.xet_merkle.specs.Merging.{AreCanonical, start_mark, end_mark, ranges_size}
use Rattle.xet_merkle.specs.Subtree.{Subtree, IsCanonical}
use Rattle.yurewha_c.specs.Handles.{BothHold}
use Rattle.yurewha_c.specs.Statuses.{done, arguments, sizes, memory, empty_handle}

-- two subtrees are merged to a third
abbrev pub Merges : Option Subtree → Option Subtree → Option Subtree → (Subtree → Subtree → Subtree → Type 0) → Type 0
Merges front back merged P = BothHold front back (λ a b. IsSomeAnd merged (P a b))

-- no mark is between two subtrees
abbrev pub NoMarkBetween : Subtree → Subtree → Type 0
NoMarkBetween front back = (front.at_end ≡ false) × (back.at_start ≡ false)

-- the status of a merge of two subtrees
pub record IsMergeStatus (front back : Option Subtree) (status : ℕ) : Type 0 where
  pub on_empty : (status ≡ empty_handle) ↔ ((front ≡ None) ⊎ (back ≡ None))
  pub on_marks : (status ≡ arguments) ↔ BothHold front back (λ a b. ¬ NoMarkBetween a b)
  pub on_sizes : (status ≡ sizes) ↔ BothHold front back (λ a b. NoMarkBetween a b × (2 ^ 64 ≤ levels_size a.levels + levels_size b.levels))
  pub statuses : (status ≡ done) ⊎ ((status ≡ empty_handle) ⊎ ((status ≡ arguments) ⊎ ((status ≡ sizes) ⊎ (status ≡ memory))))

-- what the subtrees of adjacent ranges are merged to
abbrev pub IsMergeOf : List Subtree → Subtree → Type 0
IsMergeOf ranges made =
    ((lists : List (List Node)) → AreCanonical ranges lists → IsCanonical made (flat_map (λ list. list) lists))
    × (made.at_start ≡ start_mark ranges) × (made.at_end ≡ end_mark ranges) × (levels_size made.levels ≡ ranges_size ranges)
    × ((range : Subtree) → ranges ≡ range ∷ [] → made ≡ range)
