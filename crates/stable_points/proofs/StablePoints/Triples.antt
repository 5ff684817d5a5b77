-- The stable points of a list by indices: a place is a stable point if and only if three natural cuts are around it as
-- the documentation says.
use Rattle.std.proofs.Common.{◌≡◌, ℕ, zero, suc, ◌+◌, ◌-◌, ◌<◌, ◌≤◌, ◌↔◌, List, [], ◌∷◌, ◌++◌, length, take, drop, refl, sym, ap, subst, ◌∙◌, inl, inr, arith, append_assoc, length-append, length-take}
use Rattle.std.proofs.lemmas.Bool.{cases_lt}
use Rattle.std.proofs.lemmas.List.{take-append-drop, take_at, drop_at, drop_all}
use Rattle.xet_roots.specs.Groups.{Node, Cut}
use Rattle.stable_points.specs.StablePoints.{NoCut, EndsStable, BeginsStable, IsStable, CutAt, IsTriple}
use Rattle.xet_roots.proofs.Grouping.OneCutting.{is_or_not_cut}
use Rattle.stable_points.proofs.StablePoints.CutPlaces.{not_both}

-- ---- natural cuts at indices

-- after some nodes
CutAt-back : (front back : List Node) (i j : ℕ) → j ≡ length front + i → CutAt (front ++ back) j → CutAt back i
CutAt-back [] back i j e h = let same : j ≡ i = omega arith in subst (CutAt back) same h
CutAt-back (node ∷ front) back i zero e h = absurd (omega arith)
CutAt-back (node ∷ front) back i (suc j) e h = CutAt-back front back i j (omega arith) h

CutAt-append : (front back : List Node) (i j : ℕ) → j ≡ length front + i → CutAt back i → CutAt (front ++ back) j
CutAt-append [] back i j e h = let same : i ≡ j = omega arith in subst (CutAt back) same h
CutAt-append (node ∷ front) back i zero e h = absurd (omega arith)
CutAt-append (node ∷ front) back i (suc j) e h = CutAt-append front back i j (omega arith) h

no_cut_at : (nodes rest : List Node) (i : ℕ) → NoCut nodes → i < length nodes → CutAt (nodes ++ rest) i → ⊥
no_cut_at [] rest i none within h = omega arith
no_cut_at (node ∷ nodes) rest zero none within h = not_both node none.0 h
no_cut_at (node ∷ nodes) rest (suc i) none within h = no_cut_at nodes rest i none.1 (omega arith) h

NoCut-from : (nodes rest : List Node) → ((i : ℕ) → i < length nodes → CutAt (nodes ++ rest) i → ⊥) → NoCut nodes
NoCut-from [] rest none = tt
NoCut-from (node ∷ nodes) rest none = (
  elim (is_or_not_cut node) [ inl cut ↦ absurd (none zero (omega arith) cut) | inr not_cut ↦ not_cut ],
  NoCut-from nodes rest (λ i within h. none (suc i) (omega arith) h),
)

-- the parts of a list on either side of a natural cut
record AroundCut (nodes : List Node) (i : ℕ) : Type 0 where
  before : List Node
  node : Node
  after : List Node
  parts : nodes ≡ before ++ node ∷ after
  index : length before ≡ i
  cut : Cut node

around_cut : (nodes : List Node) (i : ℕ) → CutAt nodes i → AroundCut nodes i
around_cut [] i h = absurd h
around_cut (node ∷ nodes) zero h = record { before = []; node = node; after = nodes; parts = refl; index = refl; cut = h }
around_cut (node ∷ nodes) (suc i) h =
    let rest = around_cut nodes i h in
    record {
      before = node ∷ rest.before;
      node = rest.node;
      after = rest.after;
      parts = ap (λ (l : List Node). node ∷ l) rest.parts;
      index = let at = rest.index in omega arith;
      cut = rest.cut;
    }

-- ---- a stable place has a triple

module _ (before : List Node) (first : Node) (one : List Node) (second : Node) (two : List Node) (third : Node) (after : List Node) where
  abbrev from_second : List Node
  from_second = second ∷ (two ++ third ∷ after)

  abbrev from_first : List Node
  from_first = first ∷ (one ++ from_second)

  abbrev index_b : ℕ
  index_b = length before + (length one + 1)

  triple_at : Cut first → Cut second → Cut third → NoCut one → NoCut two → 2 ≤ length one → length one ≤ 6 → 2 ≤ length two → length two ≤ 6 →
      IsTriple (before ++ from_first) (length before) index_b (index_b + (length two + 1))
  triple_at cut_first cut_second cut_third no_one no_two two_one six_one two_two six_two =
      let at_first = λ (i j : ℕ) (e : j ≡ length before + (1 + i)) (h : CutAt (one ++ from_second) i).
      CutAt-append before from_first (suc i) j (omega arith) h in
      let in_first = λ (i j : ℕ) (e : j ≡ length before + (1 + i)) (h : CutAt (before ++ from_first) j).
      let inner : CutAt (one ++ from_second) i = CutAt-back before from_first (suc i) j (omega arith) h in inner in
      record {
        cut_a = CutAt-append before from_first zero (length before) (omega arith) cut_first;
        cut_b = at_first (length one) index_b (omega arith) (CutAt-append one from_second zero (length one) (omega arith) cut_second);
        cut_c =
            at_first (length one + (length two + 1)) (index_b + (length two + 1)) (omega arith)
            (CutAt-append one from_second (suc (length two)) (length one + (length two + 1)) (omega arith)
            (CutAt-append two (third ∷ after) zero (length two) (omega arith) cut_third));
        three_to_b = omega arith;
        seven_to_b = omega arith;
        three_to_c = omega arith;
        seven_to_c = omega arith;
        no_cut_before_b = λ i low high h.
            no_cut_at one from_second (i - (length before + 1)) no_one (omega arith) (in_first (i - (length before + 1)) i (omega arith) h);
        no_cut_after_b = λ i low high h.
            let k = i - (index_b + 1) in
            let inner : CutAt from_second (suc k) = CutAt-back one from_second (suc k) (length one + suc k) refl (in_first (length one + suc k) i (omega arith) h) in
            no_cut_at two (third ∷ after) k no_two (omega arith) inner;
      }

-- the indices of the triple at a place
abbrev pub TripleAt : List Node → ℕ → Type 0
TripleAt nodes place = (a b c : ℕ) × IsTriple nodes a b c × (place ≡ b + 1)

TripleAt-from_stable : (left right : List Node) → IsStable left right → TripleAt (left ++ right) (length left)
TripleAt-from_stable left right h =
    let e = h.ends in
    let b = h.begins in
    let whole : left ++ right ≡ e.before ++ from_first e.before e.first e.between e.last b.between b.first b.after =
    ap (λ (l : List Node). l ++ right) e.parts
    ∙ append_assoc e.before (e.first ∷ (e.between ++ e.last ∷ [])) right
    ∙ ap (λ (l : List Node). e.before ++ e.first ∷ l) (append_assoc e.between (e.last ∷ []) right)
    ∙ ap (λ (l : List Node). e.before ++ e.first ∷ (e.between ++ e.last ∷ l)) b.parts in
    let b_at = length e.before + (length e.between + 1) in
    let c_at = b_at + (length b.between + 1) in
    let len = ap length e.parts in (
      length e.before,
      b_at,
      c_at,
      subst (λ (l : List Node). IsTriple l (length e.before) b_at c_at) (sym whole)
          (triple_at e.before e.first e.between e.last b.between b.first b.after e.first_cut e.last_cut b.first_cut e.gap.no_cut b.gap.no_cut e.gap.two e.gap.six b.gap.two b.gap.six),
      omega (arith, length-append e.before (e.first ∷ (e.between ++ e.last ∷ [])), length-append e.between (e.last ∷ [])),
    )

-- ---- a triple gives a stable place

abbrev StableAt : List Node → ℕ → Type 0
StableAt nodes place = (left right : List Node) × (nodes ≡ left ++ right) × (length left ≡ place) × IsStable left right

-- a natural cut at an index, and none before it
record NextCut (nodes : List Node) (i : ℕ) : Type 0 where
  between : List Node
  node : Node
  after : List Node
  parts : nodes ≡ between ++ node ∷ after
  index : length between ≡ i
  cut : Cut node
  no_cut : NoCut between

next_cut : (nodes : List Node) (i : ℕ) → CutAt nodes i → ((k : ℕ) → k < i → CutAt nodes k → ⊥) → NextCut nodes i
next_cut nodes i h none =
    let at = around_cut nodes i h in
    let len = at.index in record {
      between = at.before;
      node = at.node;
      after = at.after;
      parts = at.parts;
      index = len;
      cut = at.cut;
      no_cut = NoCut-from at.before (at.node ∷ at.after) (λ k within cut. none k (omega arith) (subst (λ (l : List Node). CutAt l k) (sym at.parts) cut));
    }

-- after a node
CutAt-after : (before : List Node) (node : Node) (after : List Node) (i j : ℕ) → j ≡ length before + 1 + i → CutAt (before ++ node ∷ after) j → CutAt after i
CutAt-after before node after i j e h =
    let inner : CutAt after i = CutAt-back before (node ∷ after) (suc i) j (omega arith) h in inner

CutAt-from_after : (before : List Node) (node : Node) (after : List Node) (i j : ℕ) → j ≡ length before + 1 + i → CutAt after i → CutAt (before ++ node ∷ after) j
CutAt-from_after before node after i j e h = CutAt-append before (node ∷ after) (suc i) j (omega arith) h

-- the natural cut that comes next after one
cut_after_cut : (before : List Node) (node : Node) (after : List Node) (b : ℕ) → length before < b → CutAt (before ++ node ∷ after) b →
    ((k : ℕ) → length before < k → k < b → CutAt (before ++ node ∷ after) k → ⊥) → NextCut after (b - (length before + 1))
cut_after_cut before node after b beyond h none =
    next_cut after (b - (length before + 1)) (CutAt-after before node after (b - (length before + 1)) b (omega arith) h)
    (λ k below cut. none (length before + 1 + k) (omega arith) (omega arith) (CutAt-from_after before node after k (length before + 1 + k) refl cut))

StableAt-from_third : (before : List Node) (first : Node) (one : List Node) (second : Node) (rest : List Node) (a b c : ℕ) →
    a ≡ length before → b ≡ length before + (length one + 1) → Cut first → Cut second → NoCut one →
    IsTriple ((before ++ first ∷ one) ++ second ∷ rest) a b c → StableAt ((before ++ first ∷ one) ++ second ∷ rest) (b + 1)
StableAt-from_third before first one second rest a b c a_is b_is cut_first cut_second no_one h =
    let front = before ++ first ∷ one in
    let len = length-append before (first ∷ one) in
    let low = h.three_to_b in
    let high = h.seven_to_b in
    let low_c = h.three_to_c in
    let high_c = h.seven_to_c in
    let third = cut_after_cut front second rest c (omega arith) h.cut_c (λ k beyond below. h.no_cut_after_b k (omega arith) below) in
    let at = third.index in
    let ends : EndsStable (front ++ second ∷ []) = record {
      before = before;
      first = first;
      between = one;
      last = second;
      parts = append_assoc before (first ∷ one) (second ∷ []);
      first_cut = cut_first;
      last_cut = cut_second;
      gap = record { no_cut = no_one; two = omega arith; six = omega arith };
    } in
    let begins : BeginsStable rest = record {
      between = third.between;
      first = third.node;
      after = third.after;
      parts = third.parts;
      first_cut = third.cut;
      gap = record { no_cut = third.no_cut; two = omega arith; six = omega arith };
    } in (
      front ++ second ∷ [],
      rest,
      sym (append_assoc front (second ∷ []) rest),
      omega (arith, length-append front (second ∷ [])),
      record { ends = ends; begins = begins },
    )

StableAt-from_second : (before : List Node) (first : Node) (rest : List Node) (b c : ℕ) → Cut first → IsTriple (before ++ first ∷ rest) (length before) b c →
    StableAt (before ++ first ∷ rest) (b + 1)
StableAt-from_second before first rest b c cut h =
    let low = h.three_to_b in
    let second = cut_after_cut before first rest b (omega arith) h.cut_b (λ k beyond below. h.no_cut_before_b k beyond below) in
    let at = second.index in
    let whole : before ++ first ∷ rest ≡ (before ++ first ∷ second.between) ++ second.node ∷ second.after =
    ap (λ (l : List Node). before ++ first ∷ l) second.parts ∙ sym (append_assoc before (first ∷ second.between) (second.node ∷ second.after)) in
    subst (λ (l : List Node). StableAt l (b + 1)) (sym whole)
    (StableAt-from_third before first second.between second.node second.after (length before) b c refl (omega arith) cut second.cut second.no_cut
    (subst (λ (l : List Node). IsTriple l (length before) b c) whole h))

StableAt-from_triple : (nodes : List Node) (a b c : ℕ) → IsTriple nodes a b c → StableAt nodes (b + 1)
StableAt-from_triple nodes a b c h =
    let first = around_cut nodes a h.cut_a in
    subst (λ (l : List Node). StableAt l (b + 1)) (sym first.parts)
    (StableAt-from_second first.before first.node first.after b c first.cut
    (subst (λ (k : ℕ). IsTriple (first.before ++ first.node ∷ first.after) k b c) (sym first.index)
    (subst (λ (l : List Node). IsTriple l a b c) first.parts h)))

-- ---- the law

none_begins : BeginsStable [] → ⊥
none_begins h = let len = ap length h.parts in omega (arith, length-append h.between (h.first ∷ h.after))

pub stable_at_triples : (nodes : List Node) (place : ℕ) → IsStable (take place nodes) (drop place nodes) ↔ TripleAt nodes place
stable_at_triples nodes place = (
  λ h. elim (cases_lt (length nodes) place) [
    | inl past ↦ absurd (none_begins (subst BeginsStable (drop_all place nodes (omega arith)) h.begins))
    | inr within ↦
        let triple : TripleAt nodes (length (take place nodes)) =
        subst (λ (l : List Node). TripleAt l (length (take place nodes))) (take-append-drop place nodes) (TripleAt-from_stable (take place nodes) (drop place nodes) h) in
        let len : length (take place nodes) ≡ place = omega (arith, length-take place nodes) in
        subst (TripleAt nodes) len triple
  ],
  λ h.
      let stable = StableAt-from_triple nodes h.0 h.1 h.2 h.3 in
      let left = stable.0 in
      let right = stable.1 in
      let len : length left ≡ place = stable.3 ∙ sym h.4 in
      subst (λ (l : List Node). IsStable (take place l) (drop place l)) (sym stable.2)
      (rw (take_at left right place len, drop_at left right place len) stable.4),
)
