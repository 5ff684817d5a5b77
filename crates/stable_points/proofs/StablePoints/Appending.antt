-- Appending nodes without adding a stable point. A scan from 14 nodes before them shows it: the third natural cut of a
-- stable point is at most 14 nodes after the first one.
use Rattle.std.proofs.Common.{◌≡◌, ℕ, ◌+◌, ◌<◌, ◌≤◌, ◌⊎◌, ◌&&◌, ◌||◌, Bool, not, true, false, List, [], ◌∷◌, ◌++◌, length, refl, sym, ap, subst, ◌∙◌, inl, inr, arith, append_assoc, append-nil, length-append}
use Rattle.std.proofs.lemmas.Bool.{false≢true, cases_Bool, and_parts, and_from, cases_lt, not-true}
use Rattle.xet_roots.specs.Groups.{Node, is_cut, Cut}
use Rattle.stable_points.specs.StablePoints.{NoCut, EndsStable, BeginsStable, IsStable, NoStable}
use Rattle.stable_points.specs.Steps.StableScan.{is_stable_gap}
use Rattle.stable_points.specs.Steps.StableScan.{after_cut, completes, next_scan, scan_after, completes_none, AddsNoStable}
use Rattle.stable_points.specs.declared.search.CutScan.{CutScan}
use Rattle.xet_roots.proofs.Lists.Places.{meets}
use Rattle.xet_roots.proofs.Lists.Places.Meets.{same, earlier, later}
use Rattle.stable_points.proofs.Lists.PlaceSearch.{same_place}
use Rattle.stable_points.proofs.StablePoints.Scan.{place_before}
use Rattle.stable_points.proofs.StablePoints.Loops.{Scanned, Scanned-push, since_more, LastSoFar-none}

-- ---- a scan after some nodes

pub scan_after-append : (scan : CutScan) (front back : List Node) → scan_after scan (front ++ back) ≡ scan_after (scan_after scan front) back
scan_after-append scan [] back = refl
scan_after-append scan (x ∷ front) back = scan_after-append (next_scan scan (is_cut x)) front back

pub completes_none-append : (scan : CutScan) (front back : List Node) → completes_none scan front ≡ true → completes_none (scan_after scan front) back ≡ true →
    completes_none scan (front ++ back) ≡ true
completes_none-append scan [] back first second = second
completes_none-append scan (x ∷ front) back first second =
    let parts = and_parts _ _ first in
    and_from _ _ parts.0 (completes_none-append (next_scan scan (is_cut x)) front back parts.1 second)

pub completes_none-push : (scan : CutScan) (nodes : List Node) (x : Node) →
    completes_none scan (nodes ++ x ∷ []) ≡ completes_none scan nodes && not (completes (scan_after scan nodes) (is_cut x))
completes_none-push scan [] x = elim (cases_Bool (completes scan (is_cut x))) [
  | inl here ↦ rw here refl
  | inr not_here ↦ rw not_here refl
]
completes_none-push scan (y ∷ nodes) x =
    let rest = completes_none-push (next_scan scan (is_cut y)) nodes x in
    elim (cases_Bool (completes scan (is_cut y))) [
      | inl here ↦ rw here refl
      | inr not_here ↦ rw not_here rest
    ]

pub since_after : (scan : CutScan) (nodes : List Node) → (scan_after scan nodes).since_cut ≤ scan.since_cut + length nodes
since_after scan [] = omega arith
since_after scan (x ∷ nodes) =
    let one = since_more scan (is_cut x) in
    let rest = since_after (next_scan scan (is_cut x)) nodes in
    omega arith

Scanned-after : (more nodes : List Node) (scan : CutScan) → Scanned nodes scan → Scanned (nodes ++ more) (scan_after scan more)
Scanned-after [] nodes scan h = subst (λ (l : List Node). Scanned l scan) (sym (append-nil nodes)) h
Scanned-after (x ∷ more) nodes scan h =
    subst (λ (l : List Node). Scanned l (scan_after scan (x ∷ more))) (append_assoc nodes (x ∷ []) more)
    (Scanned-after more (nodes ++ x ∷ []) (next_scan scan (is_cut x)) (Scanned-push nodes scan x h))

-- ---- no new stable place

-- each stable place of some nodes with more after was there before
abbrev pub NoNew : List Node → List Node → Type 0
NoNew nodes more = (left right : List Node) → nodes ++ more ≡ left ++ right → IsStable left right → (rest : List Node) × (nodes ≡ left ++ rest) × IsStable left rest

pub none_new : (more nodes passed : List Node) (scan : CutScan) → Scanned (nodes ++ passed) scan → completes_none scan more ≡ true → NoNew nodes passed → NoNew nodes (passed ++ more)
none_new [] nodes passed scan h none old = subst (NoNew nodes) (sym (append-nil passed)) old
none_new (x ∷ more) nodes passed scan h none old =
    let parts = and_parts _ _ none in
    let with_x : (nodes ++ passed) ++ x ∷ [] ≡ nodes ++ (passed ++ x ∷ []) = append_assoc nodes passed (x ∷ []) in
    let pushed = subst (λ (l : List Node). Scanned l (next_scan scan (is_cut x))) with_x (Scanned-push (nodes ++ passed) scan x h) in
    let here : NoNew nodes (passed ++ x ∷ []) = λ left right e stable.
    let before = place_before (nodes ++ passed) scan.has_cut scan.ends_stable scan.since_cut x h (not-true (completes scan (is_cut x)) parts.0) left right (with_x ∙ e) stable in
    old left before.0 before.1 before.2 in
    subst (NoNew nodes) (append_assoc passed (x ∷ []) more) (none_new more nodes (passed ++ x ∷ []) (next_scan scan (is_cut x)) pushed parts.1 here)

none_after : (near more : List Node) → completes_none (scan_after after_cut near) more ≡ true →
    (cut : Node) → Cut cut → NoNew (cut ∷ near) more
none_after near more none cut is_cut =
    let start = after_cut in
    let first : Scanned (cut ∷ []) start = (LastSoFar-none [] true (cut ∷ []) (cut, refl, is_cut)).scanned in
    let scanned = Scanned-after near (cut ∷ []) start first in
    none_new more (cut ∷ near) [] (scan_after start near) (subst (λ (l : List Node). Scanned l (scan_after start near)) (sym (append-nil (cut ∷ near))) scanned) none
    (λ left right e stable. (right, sym (append-nil (cut ∷ near)) ∙ e, stable))

-- ---- what stands 14 nodes before makes no difference

-- the shorter one of two fronts of a list
pub front_of : (a b c d : List Node) → a ++ b ≡ c ++ d → length c ≤ length a → (gap : List Node) × (a ≡ c ++ gap) × (d ≡ gap ++ b)
front_of a b c d e short = elim (meets a b c d e) [
  | same p q ↦ ([], p ∙ sym (append-nil c), sym q)
  | earlier x gap p q ↦ absurd (let len = ap length p in omega (arith, length-append a (x ∷ gap)))
  | later x gap p q ↦ (x ∷ gap, p, q)
]

-- a stable place whose third natural cut is among the first nodes of a list is a stable place of these nodes
pub stable_within : (front back left right : List Node) (stable : IsStable left right) → front ++ back ≡ left ++ right →
    length left + length stable.begins.between < length front → (rest : List Node) × (front ≡ left ++ rest) × IsStable left rest
stable_within front back left right stable e inside =
    let begins = stable.begins in
    let cuts : List Node = begins.between ++ begins.first ∷ [] in
    let parts : front ++ back ≡ (left ++ cuts) ++ begins.after =
    e ∙ ap (λ (l : List Node). left ++ l) (begins.parts ∙ sym (append_assoc begins.between (begins.first ∷ []) begins.after))
    ∙ sym (append_assoc left cuts begins.after) in
    let at = front_of front back (left ++ cuts) begins.after parts (omega (arith, length-append left cuts, length-append begins.between (begins.first ∷ []))) in (
      cuts ++ at.0,
      at.1 ∙ append_assoc left cuts at.0,
      record {
        ends = stable.ends;
        begins = record {
          between = begins.between;
          first = begins.first;
          after = at.0;
          parts = append_assoc begins.between (begins.first ∷ []) at.0;
          first_cut = begins.first_cut;
          gap = begins.gap;
        };
      },
    )

pub nothing_of : (nodes : List Node) → length nodes < 1 → nodes ≡ []
nothing_of [] few = refl
nothing_of (x ∷ nodes) few = absurd (omega arith)

-- other nodes in front of the last two natural cuts
pub ends_after : (left : List Node) (h : EndsStable left) (before : List Node) → EndsStable (before ++ h.first ∷ (h.between ++ h.last ∷ []))
ends_after left h before = record {
  before = before;
  first = h.first;
  between = h.between;
  last = h.last;
  parts = refl;
  first_cut = h.first_cut;
  last_cut = h.last_cut;
  gap = h.gap;
}

module _ (near more : List Node) (none : (cut : Node) → Cut cut → NoNew (cut ∷ near) more) where
  -- a stable place whose second and third natural cuts are in sight, and the first one too or in front of them
  in_sight : (cut : Node) → Cut cut → (out tail left right : List Node) → left ≡ out ++ tail → EndsStable left → EndsStable (cut ∷ tail) → BeginsStable right →
      (out ++ near) ++ more ≡ left ++ right → (rest : List Node) × (out ++ near ≡ left ++ rest) × IsStable left rest
  in_sight cut is_cut out tail left right left_is ends ends_here begins e =
      let whole : out ++ (near ++ more) ≡ out ++ (tail ++ right) =
      sym (append_assoc out near more) ∙ e ∙ ap (λ (l : List Node). l ++ right) left_is ∙ append_assoc out tail right in
      let after = (same_place out (near ++ more) out (tail ++ right) whole refl).1 in
      let seen = none cut is_cut (cut ∷ tail) right (ap (λ (l : List Node). cut ∷ l) after) (record { ends = ends_here; begins = begins }) in
      let rest = seen.0 in
      let near_is : near ≡ tail ++ rest = let here : cut ∷ near ≡ cut ∷ (tail ++ rest) = seen.1 in cc in
      (rest, ap (λ (l : List Node). out ++ l) near_is ∙ sym (append_assoc out tail rest) ∙ ap (λ (l : List Node). l ++ rest) (sym left_is), record { ends = ends; begins = seen.2.begins })

  first_in_sight : (out gap left right : List Node) (stable : IsStable left right) → stable.ends.before ≡ out ++ gap → (out ++ near) ++ more ≡ left ++ right →
      (rest : List Node) × (out ++ near ≡ left ++ rest) × IsStable left rest
  first_in_sight out gap left right stable at e =
      let ends = stable.ends in
      let cuts : List Node = ends.first ∷ (ends.between ++ ends.last ∷ []) in
      let left_is : left ≡ out ++ (gap ++ cuts) = ends.parts ∙ ap (λ (l : List Node). l ++ cuts) at ∙ append_assoc out gap cuts in
      in_sight ends.first ends.first_cut out (gap ++ cuts) left right left_is ends (ends_after left ends (ends.first ∷ gap)) stable.begins e

  first_in_front : (out left right : List Node) (stable : IsStable left right) → length out ≤ 1 → length stable.ends.before < length out → (out ++ near) ++ more ≡ left ++ right →
      (rest : List Node) × (out ++ near ≡ left ++ rest) × IsStable left rest
  first_in_front [] left right stable few short e = absurd (omega arith)
  first_in_front (x ∷ y ∷ out) left right stable few short e = absurd (omega arith)
  first_in_front (x ∷ []) left right stable few short e =
      let ends = stable.ends in
      let none_before = nothing_of ends.before (omega arith) in
      let cuts : List Node = ends.between ++ ends.last ∷ [] in
      let left_cut : left ≡ ends.first ∷ cuts = ends.parts ∙ ap (λ (l : List Node). l ++ ends.first ∷ cuts) none_before in
      let whole : x ∷ (near ++ more) ≡ ends.first ∷ (cuts ++ right) = e ∙ ap (λ (l : List Node). l ++ right) left_cut in
      let at : x ≡ ends.first = cc in
      in_sight ends.first ends.first_cut (x ∷ []) cuts left right (left_cut ∙ ap (λ (y : Node). y ∷ cuts) (sym at)) ends (ends_after left ends []) stable.begins e

  adds_none : (before : List Node) → (before ≡ []) ⊎ (14 ≤ length near) → AddsNoStable (before ++ near) more
  adds_none before enough front left right few e stable =
      let ends = stable.ends in
      let begins = stable.begins in
      let out = front ++ before in
      let whole : (out ++ near) ++ more ≡ left ++ right = ap (λ (l : List Node). l ++ more) (append_assoc front before near) ∙ e in
      let len_left = ap length ends.parts in
      let six = ends.gap.six in
      let six_after = begins.gap.six in
      elim (cases_lt (length left + length begins.between) (length (front ++ (before ++ near)))) [
        | inl inside ↦ stable_within (front ++ (before ++ near)) more left right stable e inside
        | inr beyond ↦ elim (cases_lt (length ends.before) (length out)) [
          | inl short ↦ elim enough [
            | inl nothing ↦
                let out_is : out ≡ front = ap (λ (l : List Node). front ++ l) nothing ∙ append-nil front in
                let len_out = ap length out_is in
                let found = first_in_front out left right stable (omega arith) short whole in
                (found.0, sym (append_assoc front before near) ∙ found.1, found.2)
            | inr long ↦ absurd (omega (arith, length-append front before, length-append front (before ++ near), length-append before near, length-append ends.before (ends.first ∷ (ends.between ++ ends.last ∷ [])), length-append ends.between (ends.last ∷ [])))
          ]
          | inr enough_before ↦
              let cuts : List Node = ends.first ∷ (ends.between ++ ends.last ∷ []) in
              let parts : ends.before ++ (cuts ++ right) ≡ out ++ (near ++ more) =
              sym (append_assoc ends.before cuts right) ∙ ap (λ (l : List Node). l ++ right) (sym ends.parts) ∙ sym whole ∙ append_assoc out near more in
              let at = front_of ends.before (cuts ++ right) out (near ++ more) parts enough_before in
              let found = first_in_sight out at.0 left right stable at.1 whole in
              (found.0, sym (append_assoc front before near) ∙ found.1, found.2)
        ]
      ]

-- what a scan that begins after a natural cut tells, in front of nodes that are all there are or 14
pub adds_none_after : (before near more : List Node) → (before ≡ []) ⊎ (14 ≤ length near) →
    completes_none (scan_after after_cut near) more ≡ true → AddsNoStable (before ++ near) more
adds_none_after before near more enough none = adds_none near more (none_after near more none) before enough

-- ---- nodes without a natural cut

completes_none-without : (scan : CutScan) (nodes : List Node) → NoCut nodes → completes_none scan nodes ≡ true
completes_none-without scan [] none = refl
completes_none-without scan (x ∷ nodes) none = rw none.0 (completes_none-without (next_scan scan false) nodes none.1)

pub adds_none_without : (nodes more : List Node) → NoCut more → AddsNoStable nodes more
adds_none_without nodes more none =
    adds_none_after [] nodes more (inl refl) (completes_none-without (scan_after after_cut nodes) more none)

-- ---- where a scan may start

-- whether a natural cut is among some nodes
abbrev pub has_cut : List Node → Bool
has_cut [] = false
has_cut (x ∷ nodes) = is_cut x || has_cut nodes

-- two scans after a natural cut are the same once they have passed another one
scans_meet : (nodes : List Node) (e f : Bool) (since : ℕ) → has_cut nodes ≡ true →
    scan_after (record { has_cut = true; ends_stable = e; since_cut = since }) nodes ≡ scan_after (record { has_cut = true; ends_stable = f; since_cut = since }) nodes
scans_meet [] e f since none = absurd (false≢true none)
scans_meet (x ∷ nodes) e f since some = elim (cases_Bool (is_cut x)) [
  | inl here ↦ rw here refl
  | inr not_here ↦ rw not_here (scans_meet nodes e f (since + 1) (ap (λ c. c || has_cut nodes) (sym not_here) ∙ some))
]

pub late_scan : (front back : List Node) (x : Node) → Cut x → has_cut back ≡ true → scan_after after_cut back ≡ scan_after after_cut (front ++ x ∷ back)
late_scan front back x cut some =
    let at = scan_after after_cut front in
    sym (scan_after-append after_cut front (x ∷ back) ∙ rw cut (scans_meet back (at.has_cut && is_stable_gap at.since_cut) false 0 some))

-- the same of nodes whose first part ends with a natural cut
pub late_scan_from : (nodes first front back : List Node) (x : Node) → first ++ back ≡ nodes → first ≡ front ++ x ∷ [] → Cut x → has_cut back ≡ true →
    scan_after after_cut back ≡ scan_after after_cut nodes
late_scan_from nodes first front back x parts ends cut some =
    late_scan front back x cut some
    ∙ ap (scan_after after_cut) (sym (append_assoc front (x ∷ []) back) ∙ ap (λ (l : List Node). l ++ back) (sym ends) ∙ parts)

-- ---- what it keeps

pub none_after_cut : (nodes more : List Node) → AddsNoStable nodes more → ((cut : Node) → Cut cut → NoStable (cut ∷ nodes)) → (cut : Node) → Cut cut → NoStable (cut ∷ (nodes ++ more))
none_after_cut nodes more adds none cut is_cut = λ left right e stable.
    let before = adds (cut ∷ []) left right (omega arith) e stable in
    none cut is_cut left before.0 before.1 before.2
