-- What stays on either side of a level below the top. A first stable point depends only on the nodes before it and the
-- beginning of those after it. A last one depends only on the end of the nodes before it and those after it.
use Rattle.std.proofs.Common.{◌≡◌, ◌<◌, Bool, true, false, List, [], ◌∷◌, ◌++◌, length, sym, ap, subst, ◌∙◌, inl, arith, append_assoc, length-append}
use Rattle.xet_roots.specs.Groups.{Node, Cut, EndsWithCut}
use Rattle.stable_points.specs.StablePoints.{EndsStable, BeginsStable, NoStable, IsFirstStable, IsLastStable}
use Rattle.subtree_levels.specs.Canonical.{IsLow, IsHigh}
use Rattle.subtree_levels.specs.Steps.LevelMerging.{IsLeftUnder, IsRightUnder}
use Rattle.xet_roots.proofs.Lists.Places.{meets}
use Rattle.xet_roots.proofs.Lists.Places.Meets.{same, earlier, later}
use Rattle.stable_points.proofs.StablePoints.Scan.{begins_in_front, BeginsStable-append, IsFirstStable-append}
use Rattle.subtree_levels.proofs.Canonical.Splits.{BeginsStable-some}
use Rattle.stable_points.proofs.StablePoints.CutPlaces.{back_of, EndsStable-append, swap_front, EndsWithCut-one, EndsAfter-ends}
use Rattle.stable_points.proofs.StablePoints.Ends.{EndsStable-cut}

-- ---- beginnings and ends

EndsWithCut-back : (front back : List Node) → 0 < length back → EndsWithCut (front ++ back) → EndsWithCut back
EndsWithCut-back front back some h =
    let at = back_of front back h.0 h.1 some h.2 in
    (at.0, h.1, at.2, h.3)

-- ---- the first stable point

pub first_leaves_none : (left rest : List Node) → IsFirstStable left rest → NoStable left
first_leaves_none left rest h = λ l r e stable.
    let whole : left ++ rest ≡ l ++ (r ++ rest) = ap (λ (p : List Node). p ++ rest) e ∙ append_assoc l r rest in
    let before = h.first l (r ++ rest) whole (record { ends = stable.ends; begins = BeginsStable-append r rest stable.begins }) in
    let some = BeginsStable-some r stable.begins in
    let len = ap length e in
    omega (arith, length-append l r)

pub first_from_sides : (left rest : List Node) → EndsStable left → NoStable left → BeginsStable rest → IsFirstStable left rest
first_from_sides left rest ends none begins = record {
  stable = record { ends = ends; begins = begins };
  first = λ l r e stable. elim (meets left rest l r e) [
    | same p q ↦ let len = ap length p in omega arith
    | earlier x gap p q ↦ let len = ap length p in omega (arith, length-append left (x ∷ gap))
    | later x gap p q ↦
        let last = EndsWithCut-back l (x ∷ gap) (omega arith) (subst EndsWithCut p (EndsStable-cut left ends)) in
        let here = begins_in_front (x ∷ gap) rest last.0 last.1 [] last.2 last.3 (subst BeginsStable q stable.begins) in
        absurd (none l (x ∷ gap) p (record { ends = stable.ends; begins = here }))
  ];
}

-- ---- the last stable point

stable_after_one : (cut : Node) (right l r : List Node) → cut ∷ right ≡ l ++ r → EndsStable l →
    (more : List Node) × (l ≡ cut ∷ more) × (right ≡ more ++ r) × (0 < length more)
stable_after_one cut right [] r e h = let some = (EndsAfter-ends [] (inl h)).1 in absurd (omega arith)
stable_after_one cut right (x ∷ more) r e h =
    let some = (EndsAfter-ends (x ∷ more) (inl h)).1 in
    let at : x ≡ cut = cc in
    let rest : right ≡ more ++ r = cc in
    (more, ap (λ (y : Node). y ∷ more) at, rest, omega arith)

pub last_leaves_none : (middle right : List Node) → IsLastStable middle right → (cut : Node) → Cut cut → NoStable (cut ∷ right)
last_leaves_none middle right h cut is_cut = λ l r e stable.
    let at = stable_after_one cut right l r e stable.ends in
    let more = at.0 in
    let ends = swap_front (cut ∷ []) middle more (EndsWithCut-one cut is_cut) (EndsStable-cut middle h.stable.ends) at.3 (subst EndsStable at.1 stable.ends) in
    let whole : middle ++ right ≡ (middle ++ more) ++ r = ap (λ (l : List Node). middle ++ l) at.2 ∙ sym (append_assoc middle more r) in
    let before = h.last (middle ++ more) r whole (record { ends = ends; begins = stable.begins }) in
    let some = at.3 in
    omega (arith, length-append middle more)

pub last_from_sides : (middle right : List Node) → EndsStable middle → BeginsStable right → ((cut : Node) → Cut cut → NoStable (cut ∷ right)) → IsLastStable middle right
last_from_sides middle right ends begins none = record {
  stable = record { ends = ends; begins = begins };
  last = λ l r e stable. elim (meets middle right l r e) [
    | same p q ↦ let len = ap length p in omega arith
    | later x gap p q ↦ let len = ap length p in omega (arith, length-append l (x ∷ gap))
    | earlier x gap p q ↦
        let last = EndsStable-cut middle ends in
        let cut = last.1 in
        let swapped = swap_front middle (cut ∷ []) (x ∷ gap) last (EndsWithCut-one cut last.3) (omega arith) (subst EndsStable p stable.ends) in
        absurd (none cut last.3 (cut ∷ (x ∷ gap)) r (ap (λ (l : List Node). cut ∷ l) q) (record { ends = swapped; begins = stable.begins }))
  ];
}

-- ---- the ends of a split

pub low_side : (at_start : Bool) (left rest : List Node) → IsLow at_start left rest → IsLeftUnder at_start left
low_side true left rest h = h
low_side false left rest h = (h.stable.ends, first_leaves_none left rest h)

pub high_side : (at_end : Bool) (middle right : List Node) → IsHigh at_end middle right → IsRightUnder at_end right
high_side true middle right h = h
high_side false middle right h = (h.stable.begins, last_leaves_none middle right h)

-- more nodes after, and before
pub low_before_more : (at_start : Bool) (left rest more : List Node) → IsLow at_start left rest → IsLow at_start left (rest ++ more)
low_before_more true left rest more h = h
low_before_more false left rest more h = IsFirstStable-append left rest more h

pub high_after_more : (at_end : Bool) (more middle right : List Node) → IsHigh at_end middle right → IsHigh at_end (more ++ middle) right
high_after_more true more middle right h = h
high_after_more false more middle right h =
    last_from_sides (more ++ middle) right (EndsStable-append more middle h.stable.ends) h.stable.begins (last_leaves_none middle right h)
