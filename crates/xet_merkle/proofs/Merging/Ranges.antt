-- Subtrees of ranges, merged one after another, and in any order.
use Rattle.std.proofs.Common.{◌≡◌, ℕ, ◌+◌, ◌-◌, ◌^◌, ◌<◌, ◌≤◌, Bool, false, Option, Some, None, List, [], ◌∷◌, ◌++◌, length, get_or, take, drop, flat_map, refl, sym, ap₂, subst, ◌∙◌, arith, append_assoc, append-nil}
use Rattle.std.specs.Prelude.{Err}
use Rattle.std.proofs.lemmas.List.{take_all}
use Rattle.std.proofs.lemmas.List.Sums.{sum_by-cons}
use Rattle.xet_roots.specs.Groups.{Node}
use Rattle.xet_roots.specs.Roots.{parent}
use Rattle.xet_roots.specs.declared.error.CoreError.{CoreError}
use Rattle.subtree_levels.specs.Levels.{levels_size}
use Rattle.subtree_levels.specs.Canonical.{IsCanonicalBy}
use Rattle.subtree_levels.specs.Subtree.{Subtree, IsCanonical}
use Rattle.subtree_levels.proofs.Canonical.OneSubtree.{IsCanonicalBy-unique}
use Rattle.chunk_ranges.specs.Ranges.{Refusals}
use Rattle.chunk_ranges.specs.Steps.RangeMerging.{end_of_last}
use Rattle.chunk_ranges.proofs.Ranges.Adjacent.{allowed_ranges, refused}
use Rattle.chunk_ranges.proofs.Ranges.Joining.{JoinsTo-all, JoinsTo-join, JoinsTo-one, total_at}
use Rattle.xet_merkle.specs.Merging.{IsMerged, NoMarkBetweenSubtrees, start_mark, end_mark, ranges_size, AreCanonical}
use Rattle.xet_merkle.specs.Steps.SubtreeMerging.{MergesTo, RefusalOf}

-- ---- the reason why they can't be merged

pub refused_subtrees : {T : Type 0} (ranges : List Subtree) (reason : Option CoreError) (error : CoreError) → RefusalOf ranges reason → reason ≡ Some error →
    Refusals {T = T} (NoMarkBetweenSubtrees ranges) (ranges_size ranges) (Err error)
refused_subtrees ranges reason error told is =
    refused (λ (range : Subtree). range.at_start) (λ (range : Subtree). range.at_end) (λ (range : Subtree). levels_size range.levels) told.0 ranges error told.1 (sym told.2 ∙ is)

pub allowed_subtrees : (ranges : List Subtree) (reason : Option CoreError) → RefusalOf ranges reason → reason ≡ None → NoMarkBetweenSubtrees ranges × (ranges_size ranges < 2 ^ 64)
allowed_subtrees ranges reason told none =
    allowed_ranges (λ (range : Subtree). range.at_start) (λ (range : Subtree). range.at_end) (λ (range : Subtree). levels_size range.levels) told.0 ranges told.1 (sym told.2 ∙ none)

-- ---- one after another

abbrev start_of : Subtree → Bool
start_of range = range.at_start

abbrev end_of : Subtree → Bool
end_of range = range.at_end

abbrev size_of : Subtree → ℕ
size_of range = levels_size range.levels

pub MergesTo-all : (ranges : List Subtree) → NoMarkBetweenSubtrees ranges → MergesTo ranges ranges
MergesTo-all = JoinsTo-all IsCanonical start_of end_of size_of

-- the first two can be merged
pub can_merge_first : (ranges rest : List Subtree) (front back : Subtree) → MergesTo ranges (front ∷ back ∷ rest) → ranges_size ranges < 2 ^ 64 →
    ((front.at_end ≡ false) × (back.at_start ≡ false)) × (levels_size front.levels + levels_size back.levels < 2 ^ 64)
can_merge_first ranges rest front back h fits =
    let sum = h.sum in
    let most = total_at IsCanonical start_of end_of size_of [] rest front back in
    ((h.marks.0, h.marks.1), omega arith)

-- the first two are merged
pub MergesTo-first : (ranges rest : List Subtree) (front back merged : Subtree) → MergesTo ranges (front ∷ back ∷ rest) → IsMerged front back merged → MergesTo ranges (merged ∷ rest)
MergesTo-first ranges rest front back merged so_far h =
    JoinsTo-join IsCanonical start_of end_of size_of front back merged h.spans.start h.spans.end h.spans.size h.canonical ranges [] rest so_far

-- what merges to one range together with a copy of the first
first_and_others : (ranges : List Subtree) (first copy : Subtree) → 1 ≤ length ranges → first ≡ get_or ranges 0 first → copy ≡ first → ranges ≡ copy ∷ take (length ranges - 1) (drop 1 ranges)
first_and_others [] first copy some is same = absurd (omega arith)
first_and_others (range ∷ ranges) first copy some is same = ap₂ ◌∷◌ (sym is ∙ sym same) (sym (take_all _ ranges (omega arith)))

pub MergesTo-copied : (ranges : List Subtree) (first copy merged : Subtree) → 1 ≤ length ranges → first ≡ get_or ranges 0 first → copy ≡ first →
    MergesTo (copy ∷ take (length ranges - 1) (drop 1 ranges)) (merged ∷ []) → MergesTo ranges (merged ∷ [])
MergesTo-copied ranges first copy merged some is same h =
    subst (λ (list : List Subtree). MergesTo list (merged ∷ [])) (sym (first_and_others ranges first copy some is same)) h

pub MergesTo-one : (ranges : List Subtree) (merged : Subtree) → MergesTo ranges (merged ∷ []) → (lists : List (List Node)) → AreCanonical ranges lists →
    IsCanonical merged (flat_map (λ (list : List Node). list) lists)
MergesTo-one ranges merged h lists all = JoinsTo-one IsCanonical start_of end_of size_of ranges merged h lists all

end_mark-last : (range : Subtree) (ranges : List Subtree) → end_of_last end_of (range ∷ ranges) ≡ Some (end_mark (range ∷ ranges))
end_mark-last range [] = refl
end_mark-last range (next ∷ ranges) = end_mark-last next ranges

pub MergesTo-end : (ranges : List Subtree) (merged : Subtree) → MergesTo ranges (merged ∷ []) → merged.at_end ≡ end_mark ranges
MergesTo-end [] merged h = let last = h.last in let clash : ⊥ = cc in absurd clash
MergesTo-end (range ∷ ranges) merged h =
    let last : Some merged.at_end ≡ end_of_last end_of (range ∷ ranges) = h.last in
    let same : Some merged.at_end ≡ Some (end_mark (range ∷ ranges)) = last ∙ end_mark-last range ranges in
    cc

pub MergesTo-start : (ranges : List Subtree) (merged : Subtree) → MergesTo ranges (merged ∷ []) → merged.at_start ≡ start_mark ranges
MergesTo-start [] merged h = let first = h.first in let clash : ⊥ = cc in absurd clash
MergesTo-start (range ∷ ranges) merged h = let first : Some merged.at_start ≡ Some range.at_start = h.first in cc

pub MergesTo-size : (ranges : List Subtree) (merged : Subtree) → MergesTo ranges (merged ∷ []) → levels_size merged.levels ≡ ranges_size ranges
MergesTo-size ranges merged h = let sum = h.sum in omega (arith, sum_by-cons size_of merged [])

-- ---- in any order

pub same_canonical : (a b : Subtree) (nodes : List Node) → a.at_start ≡ b.at_start → a.at_end ≡ b.at_end → IsCanonical a nodes → IsCanonical b nodes → a ≡ b
same_canonical a b nodes start end x y =
    let marked = subst (λ (s : Bool). IsCanonicalBy parent s a.at_end nodes b.levels y.0) (sym start)
    (subst (λ (e : Bool). IsCanonicalBy parent b.at_start e nodes b.levels y.0) (sym end) y.1) in
    let levels = (IsCanonicalBy-unique parent a.at_start a.at_end x.1 marked).0 in
    λ i. record { at_start = start i; at_end = end i; levels = levels i }

pub associative : (a b c ab bc left right : Subtree) (first second third : List Node) → IsCanonical a first → IsCanonical b second → IsCanonical c third →
    IsMerged a b ab → IsMerged ab c left → IsMerged b c bc → IsMerged a bc right → (left ≡ right) × IsCanonical left (first ++ (second ++ third))
associative a b c ab bc left right first second third x y z x_y xy_z y_z x_yz =
    let here = subst (IsCanonical left) (append_assoc first second third) (xy_z.canonical (first ++ second) third (x_y.canonical first second x y) z) in
    let there = x_yz.canonical first (second ++ third) x (y_z.canonical second third y z) in
    (same_canonical left right (first ++ (second ++ third)) (xy_z.spans.start ∙ x_y.spans.start ∙ sym x_yz.spans.start) (xy_z.spans.end ∙ sym y_z.spans.end ∙ sym x_yz.spans.end) here there, here)

pub neutral_after : (range empty merged : Subtree) (nodes : List Node) → IsCanonical range nodes → IsCanonical empty [] → empty.at_end ≡ false → IsMerged range empty merged → merged ≡ range
neutral_after range empty merged nodes x none no_end h =
    same_canonical merged range nodes h.spans.start (h.spans.end ∙ no_end ∙ sym h.spans.no_end) (subst (IsCanonical merged) (append-nil nodes) (h.canonical nodes [] x none)) x

pub neutral_before : (range empty merged : Subtree) (nodes : List Node) → IsCanonical range nodes → IsCanonical empty [] → empty.at_start ≡ false → IsMerged empty range merged → merged ≡ range
neutral_before range empty merged nodes x none no_start h =
    same_canonical merged range nodes (h.spans.start ∙ no_start ∙ sym h.spans.no_start) h.spans.end (h.canonical [] nodes none x) x
