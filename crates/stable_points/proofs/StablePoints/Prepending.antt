-- Putting nodes before others without adding a stable point. A scan to 14 nodes after them shows it: the third natural
-- cut of a stable point is at most 14 nodes after the first one.
use Rattle.std.proofs.Common.{◌≡◌, ◌+◌, ◌<◌, ◌≤◌, ◌⊎◌, true, false, List, [], ◌∷◌, ◌++◌, length, refl, sym, ap, ◌∙◌, inl, inr, arith, append_assoc, length-append}
use Rattle.std.proofs.lemmas.Bool.{cases_lt}
use Rattle.xet_roots.specs.Groups.{Node}
use Rattle.stable_points.specs.StablePoints.{IsStable, NoStable}
use Rattle.stable_points.specs.Steps.StableScan.{completes_none, AddsNoStableBefore}
use Rattle.stable_points.specs.declared.search.CutScan.{CutScan}
use Rattle.stable_points.proofs.Lists.PlaceSearch.{same_place}
use Rattle.stable_points.proofs.StablePoints.Scan.{stable_ends}
use Rattle.stable_points.proofs.StablePoints.Loops.{Scanned, LastSoFar-none}
use Rattle.stable_points.proofs.StablePoints.Appending.{none_new, front_of, ends_after, stable_within}

-- nodes that a scan passes from their start on
none_scanned : (nodes : List Node) → completes_none (record { has_cut = false; ends_stable = false; since_cut = 0 }) nodes ≡ true → NoStable nodes
none_scanned nodes none left right e stable =
    let start : CutScan = record { has_cut = false; ends_stable = false; since_cut = 0 } in
    let first : Scanned [] start = (LastSoFar-none [] false [] refl).scanned in
    let at = none_new nodes [] [] start first none (λ l r same here. (r, same, here)) left right e stable in
    let long = (stable_ends left stable.ends).1 in
    let len = ap length at.1 in
    omega (arith, length-append left at.0)

module _ (more near far : List Node) (enough : (far ≡ []) ⊎ (14 ≤ length near)) (none : NoStable (more ++ near)) where
  -- the third natural cut of a stable point whose first one is put before
  third_in_sight : (left right : List Node) (stable : IsStable left right) → more ++ (near ++ far) ≡ left ++ right → length stable.ends.before < length more →
      length left + length stable.begins.between < length (more ++ near)
  third_in_sight left right stable e short =
      let ends = stable.ends in
      let begins = stable.begins in
      let len = ap length e in
      let len_left = ap length ends.parts in
      let len_right = ap length begins.parts in
      let six = ends.gap.six in
      let six_after = begins.gap.six in
      elim enough [
        | inl nothing ↦
            let len_far = ap length nothing in
            omega (arith, length-append more (near ++ far), length-append near far, length-append more near, length-append left right, length-append begins.between (begins.first ∷ begins.after))
        | inr long ↦
            omega (arith, length-append more near, length-append ends.before (ends.first ∷ (ends.between ++ ends.last ∷ [])), length-append ends.between (ends.last ∷ []))
      ]

  first_not_before : (left right : List Node) (stable : IsStable left right) → more ++ (near ++ far) ≡ left ++ right → ¬ (length stable.ends.before < length more)
  first_not_before left right stable e short =
      let at = stable_within (more ++ near) far left right stable (append_assoc more near far ∙ e) (third_in_sight left right stable e short) in
      none left at.0 at.1 at.2

  adds_none : AddsNoStableBefore more (near ++ far)
  adds_none left right e stable =
      let ends = stable.ends in
      let cuts : List Node = ends.first ∷ (ends.between ++ ends.last ∷ []) in
      let parts : ends.before ++ (cuts ++ right) ≡ more ++ (near ++ far) =
      sym (append_assoc ends.before cuts right) ∙ ap (λ (l : List Node). l ++ right) (sym ends.parts) ∙ sym e in
      elim (cases_lt (length ends.before) (length more)) [
        | inl short ↦ absurd (first_not_before left right stable e short)
        | inr enough_before ↦
            let at = front_of ends.before (cuts ++ right) more (near ++ far) parts enough_before in (
              at.0 ++ cuts,
              ends.parts ∙ ap (λ (l : List Node). l ++ cuts) at.1 ∙ append_assoc more at.0 cuts,
              record { ends = ends_after left ends at.0; begins = stable.begins },
            )
      ]

-- what a scan of nodes and of the first ones after them tells, which are all there are or 14
pub adds_none_before : (more near far : List Node) → (far ≡ []) ⊎ (14 ≤ length near) → completes_none (record { has_cut = false; ends_stable = false; since_cut = 0 }) (more ++ near) ≡ true →
    AddsNoStableBefore more (near ++ far)
adds_none_before more near far enough none = adds_none more near far enough (none_scanned (more ++ near) none)

pub nothing_before : (nodes : List Node) → AddsNoStableBefore [] nodes
nothing_before nodes left right e stable = (left, refl, stable)

-- ---- what it keeps

pub after_more : (more nodes left right rest : List Node) → more ++ nodes ≡ left ++ right → left ≡ more ++ rest → nodes ≡ rest ++ right
after_more more nodes left right rest e left_is =
    (same_place more nodes more (rest ++ right) (e ∙ ap (λ (l : List Node). l ++ right) left_is ∙ append_assoc more rest right) refl).1

pub none_before : (more nodes : List Node) → AddsNoStableBefore more nodes → NoStable nodes → NoStable (more ++ nodes)
none_before more nodes adds none left right e stable =
    let at = adds left right e stable in
    none at.0 right (after_more more nodes left right at.0 e at.1) at.2
