-- Where the natural cuts of a stable end are: lists without natural cuts, and stable ends after a natural cut.
use Rattle.std.proofs.Common.{◌≡◌, ◌<◌, ◌≤◌, ◌⊎◌, List, [], ◌∷◌, ◌++◌, length, refl, sym, ap, subst, ◌∙◌, inl, inr, arith, append_assoc, append-nil, length-append}
use Rattle.std.proofs.lemmas.Bool.{false≢true}
use Rattle.xet_roots.specs.Groups.{Node, Cut, NotCut, EndsWithCut}
use Rattle.stable_points.specs.StablePoints.{IsStableGap, NoCut, EndsStable}
use Rattle.xet_roots.proofs.Lists.Places.{meets}
use Rattle.xet_roots.proofs.Lists.Places.Meets.{same, earlier, later}

-- ---- lists without natural cuts

pub NoCut-append : (front back : List Node) → NoCut front → NoCut back → NoCut (front ++ back)
NoCut-append [] back h k = k
NoCut-append (node ∷ front) back h k = (h.0, NoCut-append front back h.1 k)

pub NoCut-front : (front back : List Node) → NoCut (front ++ back) → NoCut front
NoCut-front [] back h = tt
NoCut-front (node ∷ front) back h = (h.0, NoCut-front front back h.1)

pub NoCut-back : (front back : List Node) → NoCut (front ++ back) → NoCut back
NoCut-back [] back h = h
NoCut-back (node ∷ front) back h = NoCut-back front back h.1

-- a node isn't both
pub not_both : (node : Node) → NotCut node → Cut node → ⊥
not_both node not_cut cut = false≢true (sym not_cut ∙ cut)

-- no natural cut is among nodes without one
pub not_among : (nodes before : List Node) (node : Node) (after : List Node) → NoCut nodes → nodes ≡ before ++ node ∷ after → Cut node → ⊥
not_among nodes before node after none e cut = not_both node (NoCut-back before (node ∷ after) (subst NoCut e none)).0 cut

-- what stands before the back part, of nodes and one last node
abbrev pub BackOf : List Node → List Node → List Node → Node → Type 0
BackOf front back between last = (more : List Node) × (between ≡ front ++ more) × (back ≡ more ++ last ∷ [])

pub back_of : (front back between : List Node) (last : Node) → 0 < length back → front ++ back ≡ between ++ last ∷ [] → BackOf front back between last
back_of front back between last some e = elim (meets front back between (last ∷ []) e) [
  | same p q ↦ ([], sym (append-nil front ∙ p), q)
  | earlier x gap p q ↦ (x ∷ gap, p, q)
  | later x gap p q ↦ absurd (let len = ap length q in omega (arith, length-append gap back))
]

-- ---- stable ends

-- a list whose only natural cut is its last node, at index 2 to 6
pub record EndsFirst (nodes : List Node) : Type 0 where
  pub between : List Node
  pub last : Node
  pub parts : nodes ≡ between ++ last ∷ []
  pub last_cut : Cut last
  pub gap : IsStableGap between

-- a list that ends stable where a natural cut stands in front of it
abbrev pub EndsAfter : List Node → Type 0
EndsAfter nodes = EndsStable nodes ⊎ EndsFirst nodes

-- the first natural cut of a stable end of two parts stands in the front part
pub record FirstInFront (front back : List Node) : Type 0 where
  pub before : List Node
  pub first : Node
  pub start : List Node
  pub between : List Node
  pub last : Node
  pub front_parts : front ≡ before ++ first ∷ start
  pub back_parts : back ≡ between ++ last ∷ []
  pub first_cut : Cut first
  pub last_cut : Cut last
  pub gap : IsStableGap (start ++ between)

-- where a stable end of two parts has its first natural cut
pub cut_place : (front back : List Node) → 0 < length back → EndsStable (front ++ back) → EndsStable back ⊎ FirstInFront front back
cut_place front back some h =
    let between = h.between in
    let last = h.last in
    elim (meets front back h.before (h.first ∷ (between ++ last ∷ [])) h.parts) [
      | same p q ↦ inl (record {
        before = [];
        first = h.first;
        between = between;
        last = last;
        parts = q;
        first_cut = h.first_cut;
        last_cut = h.last_cut;
        gap = h.gap;
      })
      | earlier x gap p q ↦ inl (record {
        before = x ∷ gap;
        first = h.first;
        between = between;
        last = last;
        parts = q;
        first_cut = h.first_cut;
        last_cut = h.last_cut;
        gap = h.gap;
      })
      | later x gap p q ↦
          let at : h.first ≡ x = cc in
          let rest : gap ++ back ≡ between ++ last ∷ [] = cc in
          let ends = back_of gap back between last some rest in
          let len = ap length ends.1 in
          inr (record {
            before = h.before;
            first = h.first;
            start = gap;
            between = ends.0;
            last = last;
            front_parts = subst (λ (y : Node). front ≡ h.before ++ y ∷ gap) (sym at) p;
            back_parts = ends.2;
            first_cut = h.first_cut;
            last_cut = h.last_cut;
            gap = subst IsStableGap ends.1 h.gap;
          })
    ]

-- nodes put before a stable end
pub EndsStable-append : (front back : List Node) → EndsStable back → EndsStable (front ++ back)
EndsStable-append front back h = record {
  before = front ++ h.before;
  first = h.first;
  between = h.between;
  last = h.last;
  parts = ap (λ (l : List Node). front ++ l) h.parts ∙ sym (append_assoc front h.before (h.first ∷ (h.between ++ h.last ∷ [])));
  first_cut = h.first_cut;
  last_cut = h.last_cut;
  gap = h.gap;
}

-- where the first natural cut of a stable end is the last node of the front part, the back part has the other
pub EndsFirst-from_front : (front back : List Node) (h : FirstInFront front back) → h.start ≡ [] → EndsFirst back
EndsFirst-from_front front back h none = record {
  between = h.between;
  last = h.last;
  parts = h.back_parts;
  last_cut = h.last_cut;
  gap = subst (λ (start : List Node). IsStableGap (start ++ h.between)) none h.gap;
}

start_is_none : (front back : List Node) (h : FirstInFront front back) → EndsWithCut front → h.start ≡ []
start_is_none front back h ends =
    let others = ends.0 in
    let cut = ends.1 in
    elim (meets others (cut ∷ []) h.before (h.first ∷ h.start) (sym ends.2 ∙ h.front_parts)) [
      | same p q ↦ let none : [] ≡ h.start = cc in sym none
      | earlier x gap p q ↦ absurd (let len = ap length q in omega (arith, length-append gap (h.first ∷ h.start)))
      | later x gap p q ↦
          let rest : h.start ≡ gap ++ cut ∷ [] = cc in
          absurd (not_among h.start gap cut [] (NoCut-front h.start h.between h.gap.no_cut) rest ends.3)
    ]

-- after a natural cut, and before one
pub after_cut : (front back : List Node) → EndsWithCut front → 0 < length back → EndsStable (front ++ back) → EndsAfter back
after_cut front back ends some h = elim (cut_place front back some h) [
  | inl stable ↦ inl stable
  | inr place ↦ inr (EndsFirst-from_front front back place (start_is_none front back place ends))
]

pub before_cut : (front back : List Node) → EndsWithCut front → EndsAfter back → EndsStable (front ++ back)
before_cut front back ends (inl h) = EndsStable-append front back h
before_cut front back ends (inr h) = record {
  before = ends.0;
  first = ends.1;
  between = h.between;
  last = h.last;
  parts =
      ap (λ (l : List Node). l ++ back) ends.2
      ∙ append_assoc ends.0 (ends.1 ∷ []) back
      ∙ ap (λ (l : List Node). ends.0 ++ ends.1 ∷ l) h.parts;
  first_cut = ends.3;
  last_cut = h.last_cut;
  gap = h.gap;
}

-- any natural cut in front does for any other
pub swap_front : (front other back : List Node) → EndsWithCut front → EndsWithCut other → 0 < length back → EndsStable (front ++ back) → EndsStable (other ++ back)
swap_front front other back ends others some h = before_cut other back others (after_cut front back ends some h)

pub EndsWithCut-one : (cut : Node) → Cut cut → EndsWithCut (cut ∷ [])
EndsWithCut-one cut is_cut = ([], cut, refl, is_cut)

-- the same with one natural cut in front
pub after_one : (cut : Node) (back : List Node) → Cut cut → EndsStable (cut ∷ back) → EndsAfter back
after_one cut [] is_cut h = absurd (let len = ap length h.parts in let two = h.gap.two in omega (arith, length-append h.before (h.first ∷ (h.between ++ h.last ∷ [])), length-append h.between (h.last ∷ [])))
after_one cut (node ∷ back) is_cut h = after_cut (cut ∷ []) (node ∷ back) (EndsWithCut-one cut is_cut) (omega arith) h

pub EndsStable-one : (cut : Node) (back : List Node) → Cut cut → EndsAfter back → EndsStable (cut ∷ back)
EndsStable-one cut back is_cut h = before_cut (cut ∷ []) back (EndsWithCut-one cut is_cut) h

-- a stable end has a natural cut at its end, and three nodes or more
pub EndsAfter-ends : (nodes : List Node) → EndsAfter nodes → EndsWithCut nodes × (3 ≤ length nodes)
EndsAfter-ends nodes (inl h) =
    let two = h.gap.two in
    let len = ap length h.parts in (
      (h.before ++ h.first ∷ h.between, h.last, h.parts ∙ sym (append_assoc h.before (h.first ∷ h.between) (h.last ∷ [])), h.last_cut),
      omega (arith, length-append h.before (h.first ∷ (h.between ++ h.last ∷ [])), length-append h.between (h.last ∷ [])),
    )
EndsAfter-ends nodes (inr h) =
    let two = h.gap.two in
    let len = ap length h.parts in
    ((h.between, h.last, h.parts, h.last_cut), omega (arith, length-append h.between (h.last ∷ [])))
