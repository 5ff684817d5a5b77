-- How nodes end and begin next to a stable point.
use Rattle.std.proofs.Common.{◌≡◌, ℕ, ◌+◌, ◌<◌, ◌≤◌, ◌↔◌, Bool, true, List, [], ◌∷◌, ◌++◌, length, take, drop, get_or, refl, sym, ap, subst, ◌∙◌, inl, arith, append_assoc, append-nil, length-append, length-take, take-add, drop-drop}
use Rattle.std.proofs.lemmas.List.{take-append-drop, drop_more}
use Rattle.xet_roots.proofs.Lists.Places.{meets}
use Rattle.xet_roots.proofs.Lists.Places.Meets.{same, earlier, later}
use Rattle.xet_roots.specs.Groups.{Node, Cut, EndsWithCut}
use Rattle.stable_points.specs.StablePoints.{NoCut, EndsStable, BeginsStable, IsLastStable}
use Rattle.stable_points.specs.Steps.StableScan.{is_stable_gap, IsFront}
use Rattle.stable_points.proofs.StablePoints.CutPlaces.{EndsWithCut-one, not_among, back_of, EndsAfter-ends, swap_front}
use Rattle.stable_points.proofs.StablePoints.Scan.{EndsStable-head, head_of_stable, HeadIs, IsScanned, gap_parts, gap_from}
use Rattle.stable_points.proofs.StablePoints.Search.{FirstCut, same_first_cut}

-- ---- the last stable point behind a natural cut

-- what is the last stable point after a natural cut alone is that after all nodes that end with the cut
pub last_behind : (front : List Node) (cut : Node) (left right : List Node) → EndsWithCut front → Cut cut → IsLastStable (cut ∷ left) right → IsLastStable (front ++ left) right
last_behind front cut left right ends is_cut h =
    let one = EndsWithCut-one cut is_cut in
    let stable = h.stable.ends in
    let len = ap length stable.parts in
    let two = stable.gap.two in
    let some : 0 < length left =
    omega (arith, length-append stable.before (stable.first ∷ (stable.between ++ stable.last ∷ [])), length-append stable.between (stable.last ∷ [])) in
    record {
      stable = record { ends = swap_front (cut ∷ []) front left one ends some stable; begins = h.stable.begins };
      last = λ l r e other. elim (meets front (left ++ right) l r (sym (append_assoc front left right) ∙ e)) [
        | same p q ↦ omega (arith, ap length p, length-append front left)
        | earlier x gap p q ↦
            let moved = swap_front front (cut ∷ []) (x ∷ gap) ends one (omega arith) (subst EndsStable p other.ends) in
            let most = h.last (cut ∷ x ∷ gap) r (ap (λ (nodes : List Node). cut ∷ nodes) q) (record { ends = moved; begins = other.begins }) in
            omega (arith, ap length p, length-append front (x ∷ gap), length-append front left, most)
        | later x gap p q ↦ omega (arith, ap length p, length-append l (x ∷ gap), length-append front left)
      ];
    }

-- the same by places
pub last_from : (all : List Node) (start found : ℕ) → EndsWithCut (take start all) →
    ((front : List Node) → IsFront true front → IsLastStable (front ++ take found (drop start all)) (drop found (drop start all))) →
    IsLastStable (take (start + found) all) (drop (start + found) all)
last_from all start found ends last =
    let late = drop start all in
    let cut = ends.1 in
    rw (take-add start found all, sym (drop-drop found start all))
    (last_behind (take start all) cut (take found late) (drop found late) ends ends.3 (last (cut ∷ []) (cut, refl, ends.3)))

-- ---- a stable end

pub EndsStable-cut : (nodes : List Node) → EndsStable nodes → EndsWithCut nodes
EndsStable-cut nodes h = (EndsAfter-ends nodes (inl h)).0

no_tail : (head tail : List Node) → NoCut tail → EndsWithCut (head ++ tail) → tail ≡ []
no_tail head [] none ends = refl
no_tail head (node ∷ tail) none ends =
    let at = back_of head (node ∷ tail) ends.0 ends.1 (omega arith) ends.2 in
    absurd (not_among (node ∷ tail) at.0 ends.1 [] none at.2 ends.3)

pub scanned_ends : (nodes : List Node) (has_cut ends_stable : Bool) (since : ℕ) → IsScanned nodes has_cut ends_stable since → EndsStable nodes ↔ ((ends_stable ≡ true) × (since ≡ 0))
scanned_ends nodes has_cut ends_stable since h = (
  λ ends.
      let cut = subst EndsWithCut h.parts (EndsStable-cut nodes ends) in
      let none = no_tail h.head h.tail h.no_cut cut in
      let whole : nodes ≡ h.head = h.parts ∙ ap (λ (l : List Node). h.head ++ l) none ∙ append-nil h.head in
      (EndsStable-head has_cut ends_stable h.head h.head_is (subst EndsStable whole ends), let is = h.since_is in let len = ap length none in omega arith),
  λ is.
      let none = none_of h.tail (let since_is = h.since_is in let zero = is.1 in omega arith) in
      let whole : nodes ≡ h.head = h.parts ∙ ap (λ (l : List Node). h.head ++ l) none ∙ append-nil h.head in
      subst EndsStable (sym whole) (head_of_stable has_cut h.head (subst (λ (b : Bool). HeadIs has_cut b h.head) is.0 h.head_is)),
) where
  none_of : (l : List Node) → length l ≡ 0 → l ≡ []
  none_of [] e = refl
  none_of (x ∷ l) e = absurd (omega arith)

-- ---- a stable beginning

pub begins_at : (nodes between : List Node) (first : Node) (after : List Node) → nodes ≡ between ++ first ∷ after → Cut first → NoCut between →
    BeginsStable nodes ↔ ((2 ≤ length between) × (length between ≤ 6))
begins_at nodes between first after parts cut none = (
  λ begins.
      let found : FirstCut nodes = record { between = between; first = first; after = after; parts = parts; first_cut = cut; no_cut = none } in
      let len = ap length (same_first_cut nodes found begins.between begins.first begins.after begins.parts begins.first_cut begins.gap.no_cut).0 in
      let two = begins.gap.two in
      let six = begins.gap.six in
      (omega arith, omega arith),
  λ range. record { between = between; first = first; after = after; parts = parts; first_cut = cut; gap = record { no_cut = none; two = range.0; six = range.1 } },
)

pub begins_nowhere : (nodes : List Node) → NoCut nodes → BeginsStable nodes → ⊥
begins_nowhere nodes none begins = not_among nodes begins.between begins.first begins.after none begins.parts begins.first_cut

pub begins_at_gap : (nodes : List Node) (i : ℕ) (d : Node) → i < length nodes → Cut (get_or nodes i d) → NoCut (take i nodes) → BeginsStable nodes ↔ (is_stable_gap i ≡ true)
begins_at_gap nodes i d within cut none =
    let parts : nodes ≡ take i nodes ++ get_or nodes i d ∷ drop (i + 1) nodes =
    sym (take-append-drop i nodes) ∙ ap (λ (l : List Node). take i nodes ++ l) (drop_more nodes i d within) in
    let range = begins_at nodes (take i nodes) (get_or nodes i d) (drop (i + 1) nodes) parts cut none in
    let len = length-take i nodes in (
      λ begins. let at = range.0 begins in gap_from i (let two = at.0 in omega arith) (let six = at.1 in omega arith),
      λ gap. let at = gap_parts i gap in range.1 (let two = at.0 in omega arith, let six = at.1 in omega arith),
    )
