-- Subtrees whose levels were merged are merged.
use Rattle.std.proofs.Common.{◌≡◌, ℕ, ◌+◌, Bool, false, List, [], refl, sym, subst}
use Rattle.xet_roots.specs.Groups.{Node}
use Rattle.xet_roots.specs.Roots.{parent_by, parent}
use Rattle.subtree_levels.specs.Levels.{Level}
use Rattle.subtree_levels.specs.Canonical.{IsCanonicalBy}
use Rattle.subtree_levels.specs.Subtree.{Subtree}
use Rattle.subtree_levels.specs.WellFormed.{IsWellFormed}
use Rattle.subtree_levels.specs.Steps.LevelMerging.{IsLevelMerge, IsSightMerge, front_of, back_of, sight_of}
use Rattle.subtree_levels.specs.Steps.Building.{AreMergeable}
use Rattle.subtree_levels.specs.declared.levels.Operand.{Operand}
use Rattle.subtree_levels.proofs.Merging.LevelByLevel.{merged_size}
use Rattle.subtree_levels.proofs.Merging.LevelMerge.{level_merge}
use Rattle.subtree_levels.proofs.Merging.InPlace.{both_merged}
use Rattle.xet_merkle.specs.Merging.{IsMerged, IsMergedBy}

-- two subtrees that a mark doesn't stand between, and levels that theirs are merged to
module _ (front back : Subtree) (x : IsWellFormed front) (y : IsWellFormed back) (no_end : front.at_end ≡ false) (no_start : back.at_start ≡ false)
    (hash : List Node → List ℕ) (levels : List Level) (work : ℕ) (merged : IsLevelMerge (parent_by hash) front.at_start back.at_end front.levels [] back.levels levels work) where
  pub merged_by : IsMergedBy (parent_by hash) work front back (record { at_start = front.at_start; at_end = back.at_end; levels = levels })
  merged_by = record {
    spans = record { no_end = no_end; no_start = no_start; start = refl; end = refl; size = merged_size front back x y no_end no_start hash levels work merged };
    canonical = λ first second work_first work_second h k.
        level_merge (parent_by hash) front.at_start back.at_end merged first second work_first work_second
        (subst (λ (e : Bool). IsCanonicalBy (parent_by hash) front.at_start e first front.levels work_first) no_end h)
        (subst (λ (s : Bool). IsCanonicalBy (parent_by hash) s back.at_end second back.levels work_second) no_start k);
  }

-- what is merged under the parents' own hashes is merged
pub merged_plainly : (count : ℕ) (front back merged : Subtree) → IsMergedBy parent count front back merged → IsMerged front back merged
merged_plainly count front back merged h = record {
  spans = h.spans;
  canonical = λ first second x y. (count + (x.0 + y.0), h.canonical first second x.0 y.0 x.1 y.1);
}

-- with the levels of one operand changed in place
module _ (hash : List Node → List ℕ) (kept : Operand) (this other : Subtree) (at_start at_end : Bool) (size : ℕ)
    (h : AreMergeable (front_of kept this other) (back_of kept this other) at_start at_end size) (xs ys levels : List Level) (work : ℕ) (xs_are : xs ≡ this.levels) (ys_are : ys ≡ other.levels)
    (merged : IsSightMerge (parent_by hash) (sight_of kept at_start at_end xs [] ys) levels work) where
  pub both_merged_by : IsMergedBy (parent_by hash) work (front_of kept this other) (back_of kept this other) (record { at_start = at_start; at_end = at_end; levels = levels })
  both_merged_by =
      let front = front_of kept this other in
      let back = back_of kept this other in
      let whole = merged_by front back h.front_is h.back_is h.no_end h.no_start hash levels work (both_merged hash kept this other at_start at_end size h xs ys levels work xs_are ys_are merged) in
      subst (λ (s : Bool). IsMergedBy (parent_by hash) work front back (record { at_start = s; at_end = at_end; levels = levels })) (sym h.start)
      (subst (λ (e : Bool). IsMergedBy (parent_by hash) work front back (record { at_start = front.at_start; at_end = e; levels = levels })) (sym h.end) whole)
