-- A back operand whose levels stay: nodes that add no stable point are put before those of its first level, and nothing
-- above it is collapsed.
use Rattle.std.proofs.Common.{◌≡◌, ◌<◌, ◌≤◌, Bool, false, List, [], ◌∷◌, ◌++◌, length, refl, sym, ap, subst, ◌∙◌, inr, arith, append_assoc, append-nil, length-append}
use Rattle.xet_roots.specs.Groups.{Node}
use Rattle.subtree_levels.specs.Levels.{Level, no_level, left_at}
use Rattle.stable_points.specs.Steps.StableScan.{AddsNoStableBefore}
use Rattle.subtree_levels.specs.Steps.LevelMerging.{HaveSides, inner_nodes, with_left, NoSplit, IsLevelMerge}
use Rattle.subtree_levels.specs.Steps.LevelMerging.IsMergeSplit.{right_alone}
use Rattle.subtree_levels.specs.Steps.LevelMerging.IsLevelMerge.{prepended, step}
use Rattle.stable_points.proofs.StablePoints.CutPlaces.{EndsStable-append}
use Rattle.stable_points.proofs.StablePoints.Scan.{stable_ends}
use Rattle.stable_points.proofs.StablePoints.Prepending.{after_more, none_before}
use Rattle.subtree_levels.proofs.Merging.Appending.{no_groups}

-- no split comes up
pub no_split_prepended : (at_end : Bool) (more nodes : List Node) → AddsNoStableBefore more nodes → NoSplit false at_end nodes → NoSplit false at_end (more ++ nodes)
no_split_prepended at_end more nodes adds none left middle right split =
    let at = adds left (middle ++ right) split.parts split.low.stable in
    let rest = at.0 in
    let here = after_more more nodes left (middle ++ right) rest split.parts at.1 in
    let long = (stable_ends rest at.2.ends).1 in
    let len = ap length here in
    let len_left = ap length at.1 in
    none rest middle right (record {
      parts = here;
      several = omega (arith, length-append rest (middle ++ right));
      low = record {
        stable = at.2;
        first = λ l r e stable.
            let whole : left ++ (middle ++ right) ≡ (more ++ l) ++ r =
            ap (λ (p : List Node). p ++ (middle ++ right)) at.1 ∙ append_assoc more rest (middle ++ right) ∙ ap (λ (p : List Node). more ++ p) e ∙ sym (append_assoc more l r) in
            let first = split.low.first (more ++ l) r whole (record { ends = EndsStable-append more l stable.ends; begins = stable.begins }) in
            omega (arith, length-append more l, length-append more rest);
      };
      high = split.high;
    })

module _ (make : List Node → Node) (at_end : Bool) where
  -- all levels, where nothing is put before
  kept : (ys : List Level) → HaveSides false at_end ys → IsLevelMerge make false at_end (no_level ∷ []) [] ys ys 0
  kept [] sides = absurd sides
  kept (top ∷ []) sides =
      subst (λ (l : List Level). IsLevelMerge make false at_end (no_level ∷ []) [] (top ∷ []) l 0) (λ i. record { left = top.left; right = sym sides i } ∷ [])
      (prepended refl (λ none. none))
  kept (y ∷ next ∷ ys) sides =
      step {left = y.left} {middle = []} {right = y.right} {groups = []} (right_alone (sym (append-nil y.left)) (inr (refl, sides.0.1)) refl) no_groups (kept (next ∷ ys) sides.2)

  -- and where nodes are
  prepended_levels : (x : Level) (carry : List Node) (ys : List Level) → HaveSides false at_end ys → AddsNoStableBefore (x.left ++ carry) (left_at ys 0) →
      IsLevelMerge make false at_end (x ∷ []) carry ys (with_left ys (x.left ++ carry)) 0
  prepended_levels x carry [] sides adds = absurd sides
  prepended_levels x carry (top ∷ []) sides adds =
      let same = append_assoc x.left carry top.left in
      subst (λ (l : List Level). IsLevelMerge make false at_end (x ∷ []) carry (top ∷ []) l 0) (λ i. record { left = sym same i; right = sym sides i } ∷ [])
      (prepended refl (subst (λ (l : List Node). NoSplit false at_end top.left → NoSplit false at_end l) same (no_split_prepended at_end (x.left ++ carry) top.left adds)))
  prepended_levels x carry (y ∷ next ∷ ys) sides adds =
      let left = (x.left ++ carry) ++ y.left in
      step {left = left} {middle = []} {right = y.right} {groups = []}
      (right_alone (sym (append_assoc x.left carry y.left) ∙ sym (append-nil left)) (inr (refl, none_before (x.left ++ carry) y.left adds sides.0.1)) refl) no_groups (kept (next ∷ ys) sides.2)

pub level_merge_before : (make : List Node → Node) (at_start at_end : Bool) (xs : List Level) (carry : List Node) (ys : List Level) → HaveSides false at_end ys →
    at_start ≡ false → 0 < length xs → length xs ≤ 1 → AddsNoStableBefore (inner_nodes xs ++ carry) (left_at ys 0) →
    IsLevelMerge make at_start at_end xs carry ys (with_left ys (inner_nodes xs ++ carry)) 0
level_merge_before make at_start at_end [] carry ys sides unmarked some few adds = absurd (omega arith)
level_merge_before make at_start at_end (x ∷ next ∷ xs) carry ys sides unmarked some few adds = absurd (omega arith)
level_merge_before make at_start at_end (x ∷ []) carry ys sides unmarked some few adds =
    subst (λ (s : Bool). IsLevelMerge make s at_end (x ∷ []) carry ys (with_left ys (x.left ++ carry)) 0) (sym unmarked)
    (prepended_levels make at_end x carry ys sides adds)
