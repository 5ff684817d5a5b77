-- Merging the subtrees of adjacent ranges of chunks, as in the module `merklehash::merkle_hash_subtree` of the crate
-- `xet-core-structures`.
use Rattle.std.specs.Prelude.{◌≡◌, ℕ, ◌+◌, Bool, true, false, List, [], ◌∷◌, ◌++◌, Result}
use Rattle.std.specs.List.{AllZip}
use Rattle.xet_roots.specs.Groups.{Node}
use Rattle.xet_roots.specs.declared.error.CoreError.{CoreError}
use Rattle.chunk_ranges.specs.Ranges.{NoMarkBetween, Refusals, total_of}
use Rattle.subtree_levels.specs.Levels.{levels_size}
use Rattle.subtree_levels.specs.Canonical.{IsCanonicalBy}
use Rattle.subtree_levels.specs.Subtree.{Subtree, IsCanonical}

-- a subtree spans two others: no mark is between these, and it has their outer marks and the sum of their sizes
pub record Spans (front back merged : Subtree) : Type 0 where
  pub no_end : front.at_end ≡ false
  pub no_start : back.at_start ≡ false
  pub start : merged.at_start ≡ front.at_start
  pub end : merged.at_end ≡ back.at_end
  pub size : levels_size merged.levels ≡ levels_size front.levels + levels_size back.levels

-- two subtrees are merged to a third: it spans them and, if they are the canonical subtrees of two lists, it is that of
-- the concatenated list
pub record IsMerged (front back merged : Subtree) : Type 0 where
  pub spans : Spans front back merged
  pub canonical : (first second : List Node) → IsCanonical front first → IsCanonical back second → IsCanonical merged (first ++ second)

-- the same if `make` makes the parents, and `made` of them were made for it: this number plus the work of both lists is
-- the work of the concatenated list
pub record IsMergedBy (make : List Node → Node) (made : ℕ) (front back merged : Subtree) : Type 0 where
  pub spans : Spans front back merged
  pub canonical : (first second : List Node) (work_first work_second : ℕ) →
      IsCanonicalBy make front.at_start front.at_end first front.levels work_first →
      IsCanonicalBy make back.at_start back.at_end second back.levels work_second →
      IsCanonicalBy make merged.at_start merged.at_end (first ++ second) merged.levels (made + (work_first + work_second))

-- the errors of merging two subtrees
abbrev pub MergeRefusals : {T : Type 0} → Subtree → Subtree → Result T CoreError → Type 0
MergeRefusals front back result =
    Refusals ((front.at_end ≡ false) × (back.at_start ≡ false)) (levels_size front.levels + levels_size back.levels) result

-- no mark is between adjacent subtrees
abbrev pub NoMarkBetweenSubtrees : List Subtree → Type 0
NoMarkBetweenSubtrees = NoMarkBetween (λ range. range.at_start) (λ range. range.at_end)

-- the start mark of the first range, and the end mark of the last; without ranges, both ends count as marked
abbrev pub start_mark : List Subtree → Bool
start_mark [] = true
start_mark (range ∷ ranges) = range.at_start

abbrev pub end_mark : List Subtree → Bool
end_mark [] = true
end_mark (range ∷ []) = range.at_end
end_mark (range ∷ next ∷ ranges) = end_mark (next ∷ ranges)

-- the sum of the sizes of all ranges
abbrev pub ranges_size : List Subtree → ℕ
ranges_size = total_of (λ range. levels_size range.levels)

-- ranges are the canonical subtrees of lists, one of each
abbrev pub AreCanonical : List Subtree → List (List Node) → Type 0
AreCanonical = AllZip IsCanonical
