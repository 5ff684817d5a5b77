-- Whether a place is a stable point can be decided. So a list has a first and a last stable point, or none.
use Rattle.std.proofs.Common.{◌≡◌, ℕ, ◌≤◌, ◌⊎◌, List, [], ◌∷◌, ◌++◌, length, refl, sym, ap, subst, ◌∙◌, inl, inr, arith, length-append}
use Rattle.std.proofs.lemmas.Bool.{cases_lt}
use Rattle.xet_roots.specs.Groups.{Node, Cut}
use Rattle.stable_points.specs.StablePoints.{NoCut, IsStableGap, EndsStable, BeginsStable, IsStable, NoStable, IsFirstStable, IsLastStable}
use Rattle.xet_roots.proofs.Lists.Places.{meets}
use Rattle.xet_roots.proofs.Lists.Places.Meets.{same, earlier, later}
use Rattle.xet_roots.proofs.Grouping.OneCutting.{is_or_not_cut}
use Rattle.stable_points.proofs.StablePoints.CutPlaces.{not_both, not_among, EndsFirst, EndsStable-append, EndsStable-one}
use Rattle.stable_points.proofs.Lists.PlaceSearch.{first_place, last_place}

-- the first natural cut of a list
pub record FirstCut (nodes : List Node) : Type 0 where
  pub between : List Node
  pub first : Node
  pub after : List Node
  pub parts : nodes ≡ between ++ first ∷ after
  pub first_cut : Cut first
  pub no_cut : NoCut between

pub first_cut : (nodes : List Node) → NoCut nodes ⊎ FirstCut nodes
first_cut [] = inl tt
first_cut (node ∷ nodes) = elim (is_or_not_cut node) [
  | inl cut ↦ inr (record { between = []; first = node; after = nodes; parts = refl; first_cut = cut; no_cut = tt })
  | inr not_cut ↦ elim (first_cut nodes) [
    | inl none ↦ inl (not_cut, none)
    | inr found ↦ inr (record {
      between = node ∷ found.between;
      first = found.first;
      after = found.after;
      parts = ap (λ (l : List Node). node ∷ l) found.parts;
      first_cut = found.first_cut;
      no_cut = (not_cut, found.no_cut);
    })
  ]
]

-- there is only one
pub same_first_cut : (nodes : List Node) (h : FirstCut nodes) (between : List Node) (first : Node) (after : List Node) →
    nodes ≡ between ++ first ∷ after → Cut first → NoCut between → (h.between ≡ between) × (h.after ≡ after)
same_first_cut nodes h between first after e cut none = elim (meets h.between (h.first ∷ h.after) between (first ∷ after) (sym h.parts ∙ e)) [
  | same p q ↦ (p, cc)
  | earlier x gap p q ↦
      let at : h.first ≡ x = cc in
      absurd (not_among between h.between h.first gap none (p ∙ ap (λ (y : Node). h.between ++ y ∷ gap) (sym at)) h.first_cut)
  | later x gap p q ↦
      let at : first ≡ x = cc in
      absurd (not_among h.between between first gap h.no_cut (p ∙ ap (λ (y : Node). between ++ y ∷ gap) (sym at)) cut)
]

in_range_or_not : (n : ℕ) → ((2 ≤ n) × (n ≤ 6)) ⊎ ((2 ≤ n) → (n ≤ 6) → ⊥)
in_range_or_not n = elim (cases_lt n 2) [
  | inl short ↦ inr (λ two six. omega arith)
  | inr two ↦ elim (cases_lt 6 n) [
    | inl long ↦ inr (λ _ six. omega arith)
    | inr six ↦ inl (two, six)
  ]
]

pub BeginsStable-decided : (nodes : List Node) → BeginsStable nodes ⊎ (BeginsStable nodes → ⊥)
BeginsStable-decided nodes = elim (first_cut nodes) [
  | inl none ↦ inr (λ h. not_among nodes h.between h.first h.after none h.parts h.first_cut)
  | inr found ↦ elim (in_range_or_not (length found.between)) [
    | inl range ↦ inl (record {
      between = found.between;
      first = found.first;
      after = found.after;
      parts = found.parts;
      first_cut = found.first_cut;
      gap = record { no_cut = found.no_cut; two = range.0; six = range.1 };
    })
    | inr not_range ↦ inr (λ h.
        let at = same_first_cut nodes found h.between h.first h.after h.parts h.first_cut h.gap.no_cut in
        let len = ap length at.0 in
        let two = h.gap.two in
        let six = h.gap.six in
        not_range (omega arith) (omega arith))
  ]
]

EndsFirst-at : (nodes between : List Node) (first : Node) (after : List Node) → nodes ≡ between ++ first ∷ after → Cut first → NoCut between →
    EndsFirst nodes ⊎ (EndsFirst nodes → ⊥)
EndsFirst-at nodes between first (x ∷ after) e cut none =
    let found : FirstCut nodes = record {
      between = between;
      first = first;
      after = x ∷ after;
      parts = e;
      first_cut = cut;
      no_cut = none;
    } in
    inr (λ h. let at = same_first_cut nodes found h.between h.last [] h.parts h.last_cut h.gap.no_cut in let len = ap length at.1 in omega arith)
EndsFirst-at nodes between first [] e cut none = elim (in_range_or_not (length between)) [
  | inl range ↦ inl (record {
    between = between;
    last = first;
    parts = e;
    last_cut = cut;
    gap = record { no_cut = none; two = range.0; six = range.1 };
  })
  | inr not_range ↦ inr (λ h.
      let len = ap length (sym e ∙ h.parts) in
      let two = h.gap.two in
      let six = h.gap.six in
      not_range (omega (arith, length-append between (first ∷ []), length-append h.between (h.last ∷ [])))
      (omega (arith, length-append between (first ∷ []), length-append h.between (h.last ∷ []))))
]

EndsFirst-decided : (nodes : List Node) → EndsFirst nodes ⊎ (EndsFirst nodes → ⊥)
EndsFirst-decided nodes = elim (first_cut nodes) [
  | inl none ↦ inr (λ h. not_among nodes h.between h.last [] none h.parts h.last_cut)
  | inr found ↦ EndsFirst-at nodes found.between found.first found.after found.parts found.first_cut found.no_cut
]

-- a stable end has its first natural cut at the first node, or after it
stable_end_at : (node : Node) (nodes before : List Node) (first : Node) (between : List Node) (last : Node) →
    node ∷ nodes ≡ before ++ first ∷ (between ++ last ∷ []) → Cut first → Cut last → IsStableGap between →
    EndsStable nodes ⊎ (Cut node × EndsFirst nodes)
stable_end_at node nodes [] first between last e cut last_cut gap =
    let head : first ≡ node = cc in
    let tail : nodes ≡ between ++ last ∷ [] = cc in
    inr (
      subst Cut head cut,
      record { between = between; last = last; parts = tail; last_cut = last_cut; gap = gap },
    )
stable_end_at node nodes (x ∷ before) first between last e cut last_cut gap =
    let tail : nodes ≡ before ++ first ∷ (between ++ last ∷ []) = cc in
    inl (record {
      before = before;
      first = first;
      between = between;
      last = last;
      parts = tail;
      first_cut = cut;
      last_cut = last_cut;
      gap = gap;
    })

EndsStable-tail : (node : Node) (nodes : List Node) → EndsStable (node ∷ nodes) → EndsStable nodes ⊎ (Cut node × EndsFirst nodes)
EndsStable-tail node nodes h = stable_end_at node nodes h.before h.first h.between h.last h.parts h.first_cut h.last_cut h.gap

EndsStable-none : EndsStable [] → ⊥
EndsStable-none h = let len = ap length h.parts in omega (arith, length-append h.before (h.first ∷ (h.between ++ h.last ∷ [])))

pub EndsStable-decided : (nodes : List Node) → EndsStable nodes ⊎ (EndsStable nodes → ⊥)
EndsStable-decided [] = inr EndsStable-none
EndsStable-decided (node ∷ nodes) = elim (EndsStable-decided nodes) [
  | inl stable ↦ inl (EndsStable-append (node ∷ []) nodes stable)
  | inr not_stable ↦ elim (is_or_not_cut node) [
    | inr not_cut ↦ inr (λ h. elim (EndsStable-tail node nodes h) [ inl stable ↦ not_stable stable | inr at ↦ not_both node not_cut at.0 ])
    | inl cut ↦ elim (EndsFirst-decided nodes) [
      | inl first ↦ inl (EndsStable-one node nodes cut (inr first))
      | inr not_first ↦ inr (λ h. elim (EndsStable-tail node nodes h) [ inl stable ↦ not_stable stable | inr at ↦ not_first at.1 ])
    ]
  ]
]

pub IsStable-decided : (left right : List Node) → IsStable left right ⊎ (IsStable left right → ⊥)
IsStable-decided left right = elim (EndsStable-decided left) [
  | inr not_ends ↦ inr (λ h. not_ends h.ends)
  | inl ends ↦ elim (BeginsStable-decided right) [
    | inr not_begins ↦ inr (λ h. not_begins h.begins)
    | inl begins ↦ inl (record { ends = ends; begins = begins })
  ]
]

-- a list's first stable place, and its last
abbrev pub HasFirstStable : List Node → Type 0
HasFirstStable nodes = (left : List Node) × (right : List Node) × (nodes ≡ left ++ right) × IsFirstStable left right

abbrev pub HasLastStable : List Node → Type 0
HasLastStable nodes = (left : List Node) × (right : List Node) × (nodes ≡ left ++ right) × IsLastStable left right

pub first_stable : (nodes : List Node) → NoStable nodes ⊎ HasFirstStable nodes
first_stable nodes = elim (first_place IsStable IsStable-decided nodes) [
  | inl none ↦ inl none
  | inr found ↦ inr (
    found.left,
    found.right,
    found.parts,
    record { stable = found.here; first = λ l r e h. found.first l r (found.parts ∙ e) h },
  )
]

pub last_stable : (nodes : List Node) → NoStable nodes ⊎ HasLastStable nodes
last_stable nodes = elim (last_place IsStable IsStable-decided nodes) [
  | inl none ↦ inl none
  | inr found ↦ inr (
    found.left,
    found.right,
    found.parts,
    record { stable = found.here; last = λ l r e h. found.last l r (found.parts ∙ e) h },
  )
]
