-- A front operand whose levels stay: nodes that add no stable point are appended to those of its first level, and
-- nothing above it is collapsed.
use Rattle.std.proofs.Common.{◌≡◌, ◌<◌, ◌≤◌, Bool, true, false, List, [], ◌∷◌, ◌++◌, length, refl, sym, ap, subst, ◌∙◌, inl, inr, arith, append_assoc, append-nil, length-append}
use Rattle.xet_roots.specs.Groups.{Node, Groups}
use Rattle.stable_points.specs.StablePoints.{EndsStable}
use Rattle.subtree_levels.specs.Levels.{Level, no_level, left_at}
use Rattle.subtree_levels.specs.Canonical.{IsLow}
use Rattle.stable_points.specs.Steps.StableScan.{AddsNoStable}
use Rattle.subtree_levels.specs.Steps.LevelMerging.{HaveSides, inner_nodes, with_inner, NoSplit, IsLevelMerge}
use Rattle.subtree_levels.specs.Steps.LevelMerging.IsMergeSplit.{left_alone}
use Rattle.subtree_levels.specs.Steps.LevelMerging.IsLevelMerge.{appended, step}
use Rattle.stable_points.proofs.StablePoints.CutPlaces.{EndsStable-append}
use Rattle.stable_points.proofs.StablePoints.Scan.{stable_ends, begins_in_front, BeginsStable-append}
use Rattle.stable_points.proofs.StablePoints.Search.{last_stable}
use Rattle.stable_points.proofs.StablePoints.Appending.{none_after_cut}

-- ---- no split comes up

low_before : (at_start : Bool) (left middle rest right nodes more : List Node) → nodes ≡ left ++ (middle ++ rest) → nodes ++ more ≡ left ++ (middle ++ right) → EndsStable middle →
    IsLow at_start left (middle ++ right) → IsLow at_start left (middle ++ rest)
low_before true left middle rest right nodes more here whole ends low = low
low_before false left middle rest right nodes more here whole ends low =
    let last = (stable_ends middle ends).0 in
    let begins = begins_in_front middle right last.0 last.1 [] last.2 last.3 low.stable.begins in record {
      stable = record { ends = low.stable.ends; begins = BeginsStable-append middle rest begins };
      first = λ l r e stable.
          low.first l (r ++ more) (sym whole ∙ ap (λ (m : List Node). m ++ more) (here ∙ e) ∙ append_assoc l r more)
          (record { ends = stable.ends; begins = BeginsStable-append r more stable.begins });
    }

pub no_split_appended : (at_start : Bool) (nodes more : List Node) → AddsNoStable nodes more → NoSplit at_start false nodes → NoSplit at_start false (nodes ++ more)
no_split_appended at_start nodes more adds none left middle right split =
    let ends = split.high.stable.ends in
    let before = adds [] (left ++ middle) right (omega arith) (split.parts ∙ sym (append_assoc left middle right))
    (record { ends = EndsStable-append left middle ends; begins = split.high.stable.begins }) in
    let rest = before.0 in
    let here : nodes ≡ left ++ (middle ++ rest) = before.1 ∙ append_assoc left middle rest in
    let long = (stable_ends middle ends).1 in
    let len = ap length here in
    elim (last_stable (middle ++ rest)) [
      | inl no_place ↦ no_place middle rest refl (record { ends = ends; begins = before.2.begins })
      | inr found ↦ none left found.0 found.1 (record {
        parts = here ∙ ap (λ (l : List Node). left ++ l) found.2;
        several = omega (arith, length-append left (middle ++ rest), length-append middle rest);
        low = subst (IsLow at_start left) found.2 (low_before at_start left middle rest right nodes more here split.parts ends split.low);
        high = found.3;
      })
    ]

-- ---- what stays

pub no_groups : Groups [] []
no_groups = record { joined = refl; are_groups = tt }

module _ (make : List Node → Node) (at_start : Bool) where
  whole_top : (top : Level) (nodes : List Node) → top.right ≡ [] → top.left ≡ nodes → record { left = nodes; right = [] } ∷ [] ≡ top ∷ []
  whole_top top nodes none all = λ i. record { left = sym all i; right = sym none i } ∷ []

  -- all levels, where nothing is put after
  kept : (xs : List Level) → HaveSides at_start false xs → IsLevelMerge make at_start false xs [] (no_level ∷ []) xs 0
  kept [] sides = absurd sides
  kept (top ∷ []) sides =
      let same = append-nil top.left in
      subst (λ (l : List Level). IsLevelMerge make at_start false (top ∷ []) [] (no_level ∷ []) l 0) (whole_top top (top.left ++ []) sides (sym same))
      (appended refl (subst (NoSplit at_start false) (sym same)))
  kept (x ∷ next ∷ xs) sides =
      step {left = x.left} {middle = []} {right = x.right} {groups = []} (left_alone refl (append-nil x.right) (inr (refl, sides.1.1))) no_groups (kept (next ∷ xs) sides.2)

  -- and where nodes are
  appended_levels : (xs : List Level) (carry : List Node) (y : Level) → HaveSides at_start false xs → AddsNoStable (inner_nodes xs) (carry ++ y.left) →
      IsLevelMerge make at_start false xs carry (y ∷ []) (with_inner xs (carry ++ y.left)) 0
  appended_levels [] carry y sides adds = absurd sides
  appended_levels (top ∷ []) carry y sides adds =
      let more = carry ++ y.left in
      subst (λ (l : List Level). IsLevelMerge make at_start false (top ∷ []) carry (y ∷ []) l 0) (λ i. record { left = top.left ++ more; right = sym sides i } ∷ [])
      (appended refl (no_split_appended at_start top.left more adds))
  appended_levels (x ∷ next ∷ xs) carry y sides adds =
      step {left = x.left} {middle = []} {right = x.right ++ (carry ++ y.left)} {groups = []}
      (left_alone refl refl (inr (refl, none_after_cut x.right (carry ++ y.left) adds sides.1.1))) no_groups (kept (next ∷ xs) sides.2)

pub level_merge_after : (make : List Node → Node) (at_start at_end : Bool) (xs : List Level) (carry : List Node) (ys : List Level) → HaveSides at_start false xs →
    at_end ≡ false → 0 < length ys → length ys ≤ 1 → AddsNoStable (inner_nodes xs) (carry ++ left_at ys 0) →
    IsLevelMerge make at_start at_end xs carry ys (with_inner xs (carry ++ left_at ys 0)) 0
level_merge_after make at_start at_end xs carry [] sides unmarked some few adds = absurd (omega arith)
level_merge_after make at_start at_end xs carry (y ∷ next ∷ ys) sides unmarked some few adds = absurd (omega arith)
level_merge_after make at_start at_end xs carry (y ∷ []) sides unmarked some few adds =
    subst (λ (e : Bool). IsLevelMerge make at_start e xs carry (y ∷ []) (with_inner xs (carry ++ y.left)) 0) (sym unmarked)
    (appended_levels make at_start xs carry y sides adds)
