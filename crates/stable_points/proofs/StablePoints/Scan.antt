-- A scan of a list for stable points, node by node from its start. It remembers how many nodes come after the last
-- natural cut, and whether the nodes up to that cut end stable.
use Rattle.std.proofs.Common.{◌≡◌, ℕ, ◌+◌, ◌≤◌, ◌⊎◌, ◌&&◌, Bool, true, false, List, [], ◌∷◌, ◌++◌, length, refl, sym, ap, subst, ◌∙◌, inl, inr, arith, append_assoc, append-nil, length-append, leb}
use Rattle.std.proofs.lemmas.Bool.{cases_Bool, false≢true, leb-true, leb-false, and_parts, and_cases, and_from, le-leb}
use Rattle.std.proofs.lemmas.List.{same_from_push}
use Rattle.xet_roots.specs.Groups.{Node, is_cut, Cut, NotCut, EndsWithCut}
use Rattle.stable_points.specs.StablePoints.{IsStableGap, NoCut, EndsStable, BeginsStable, IsStable, NoStable, IsFirstStable, IsLastStable}
use Rattle.xet_roots.proofs.Lists.Places.{meets}
use Rattle.xet_roots.proofs.Lists.Places.Meets.{same, earlier, later}
use Rattle.stable_points.proofs.StablePoints.CutPlaces.{NoCut-append, NoCut-front, not_among, back_of, EndsFirst, after_cut, before_cut, EndsAfter-ends}
use Rattle.stable_points.proofs.Lists.PlaceSearch.{same_place}
use Rattle.stable_points.specs.Steps.StableScan.{is_stable_gap}

-- ---- what is kept

-- what the nodes up to the last natural cut are
abbrev pub HeadIs : Bool → Bool → List Node → Type 0
HeadIs true true head = EndsStable head
HeadIs true false head = EndsWithCut head × (EndsStable head → ⊥)
HeadIs false true head = ⊥
HeadIs false false head = head ≡ []

pub record IsScanned (front : List Node) (has_cut ends_stable : Bool) (since : ℕ) : Type 0 where
  pub head : List Node
  pub tail : List Node
  pub parts : front ≡ head ++ tail
  pub no_cut : NoCut tail
  pub since_is : since ≡ length tail
  pub head_is : HeadIs has_cut ends_stable head

pub IsScanned-none : IsScanned [] false false 0
IsScanned-none = record { head = []; tail = []; parts = refl; no_cut = tt; since_is = refl; head_is = refl }

pub gap_parts : (n : ℕ) → is_stable_gap n ≡ true → (2 ≤ n) × (n ≤ 6)
gap_parts n h = let both = and_parts (leb 2 n) (leb n 6) h in (leb-true 2 n both.0, leb-true n 6 both.1)

pub gap_from : (n : ℕ) → 2 ≤ n → n ≤ 6 → is_stable_gap n ≡ true
gap_from n two six = and_from (leb 2 n) (leb n 6) (le-leb 2 n two) (le-leb n 6 six)

no_gap : (n : ℕ) → is_stable_gap n ≡ false → 2 ≤ n → n ≤ 6 → ⊥
no_gap n h two six = elim (and_cases (leb 2 n) (leb n 6) h) [
  | inl short ↦ let less = leb-false 2 n short in omega arith
  | inr long ↦ let more = leb-false n 6 long in omega arith
]

-- nodes without a natural cut and one more don't end stable
not_stable_alone : (tail : List Node) (node : Node) → NoCut tail → EndsStable (tail ++ node ∷ []) → ⊥
not_stable_alone tail node none h =
    let regrouped : tail ++ node ∷ [] ≡ (h.before ++ h.first ∷ h.between) ++ h.last ∷ [] =
    h.parts ∙ sym (append_assoc h.before (h.first ∷ h.between) (h.last ∷ [])) in
    let at = same_from_push tail (h.before ++ h.first ∷ h.between) node h.last regrouped in
    not_among tail h.before h.first h.between none at.0 h.first_cut

-- a node that is no natural cut
pub IsScanned-plain : (front : List Node) (has_cut ends_stable : Bool) (since : ℕ) (node : Node) → IsScanned front has_cut ends_stable since → NotCut node →
    IsScanned (front ++ node ∷ []) has_cut ends_stable (since + 1)
IsScanned-plain front has_cut ends_stable since node h not_cut = record {
  head = h.head;
  tail = h.tail ++ node ∷ [];
  parts = ap (λ (l : List Node). l ++ node ∷ []) h.parts ∙ append_assoc h.head h.tail (node ∷ []);
  no_cut = NoCut-append h.tail (node ∷ []) h.no_cut (not_cut, tt);
  since_is = let len = h.since_is in omega (arith, length-append h.tail (node ∷ []));
  head_is = h.head_is;
}

-- a head that isn't empty ends with a natural cut
pub HeadIs-ends : (ends_stable : Bool) (head : List Node) → HeadIs true ends_stable head → EndsWithCut head
HeadIs-ends true head h = (EndsAfter-ends head (inl h)).0
HeadIs-ends false head h = h.0

head_after_cut : (head tail : List Node) (node : Node) → EndsWithCut head → NoCut tail → Cut node →
    HeadIs true (is_stable_gap (length tail)) (head ++ (tail ++ node ∷ []))
head_after_cut head tail node ends none cut = elim (cases_Bool (is_stable_gap (length tail))) [
  | inl is_gap ↦
      let range = gap_parts (length tail) is_gap in
      let first : EndsFirst (tail ++ node ∷ []) = record {
        between = tail;
        last = node;
        parts = refl;
        last_cut = cut;
        gap = record { no_cut = none; two = range.0; six = range.1 };
      } in
      subst (λ (b : Bool). HeadIs true b (head ++ (tail ++ node ∷ []))) (sym is_gap) (before_cut head (tail ++ node ∷ []) ends (inr first))
  | inr not_gap ↦
      let not_stable : EndsStable (head ++ (tail ++ node ∷ [])) → ⊥ = λ stable.
      elim (after_cut head (tail ++ node ∷ []) ends (omega (arith, length-append tail (node ∷ []))) stable) [
        | inl alone ↦ not_stable_alone tail node none alone
        | inr first ↦
            let at = same_from_push tail first.between node first.last first.parts in
            let len = ap length at.0 in
            let two = first.gap.two in
            let six = first.gap.six in
            no_gap (length tail) not_gap (omega arith) (omega arith)
      ] in
      let pair : HeadIs true false (head ++ (tail ++ node ∷ [])) =
      ((head ++ tail, node, sym (append_assoc head tail (node ∷ [])), cut), not_stable) in
      subst (λ (b : Bool). HeadIs true b (head ++ (tail ++ node ∷ []))) (sym not_gap) pair
]

-- a natural cut
head_of_cut : (has_cut ends_stable : Bool) (head tail : List Node) (node : Node) → HeadIs has_cut ends_stable head → NoCut tail → Cut node →
    HeadIs true (has_cut && is_stable_gap (length tail)) (head ++ (tail ++ node ∷ []))
head_of_cut true ends_stable head tail node h none cut = head_after_cut head tail node (HeadIs-ends ends_stable head h) none cut
head_of_cut false true head tail node h none cut = absurd h
head_of_cut false false head tail node h none cut = (
  (head ++ tail, node, sym (append_assoc head tail (node ∷ [])), cut),
  λ stable. not_stable_alone tail node none (subst (λ (l : List Node). EndsStable (l ++ (tail ++ node ∷ []))) h stable),
)

pub IsScanned-cut : (front : List Node) (has_cut ends_stable : Bool) (since : ℕ) (node : Node) → IsScanned front has_cut ends_stable since → Cut node →
    IsScanned (front ++ node ∷ []) true (has_cut && is_stable_gap since) 0
IsScanned-cut front has_cut ends_stable since node h cut = record {
  head = front ++ node ∷ [];
  tail = [];
  parts = sym (append-nil (front ++ node ∷ []));
  no_cut = tt;
  since_is = refl;
  head_is =
      let whole : h.head ++ (h.tail ++ node ∷ []) ≡ front ++ node ∷ [] =
      sym (append_assoc h.head h.tail (node ∷ [])) ∙ ap (λ (l : List Node). l ++ node ∷ []) (sym h.parts) in
      let gap : has_cut && is_stable_gap (length h.tail) ≡ has_cut && is_stable_gap since = ap (λ (n : ℕ). has_cut && is_stable_gap n) (sym h.since_is) in
      subst (λ (b : Bool). HeadIs true b (front ++ node ∷ [])) gap
      (subst (HeadIs true (has_cut && is_stable_gap (length h.tail))) whole (head_of_cut has_cut ends_stable h.head h.tail node h.head_is h.no_cut cut));
}

-- ---- stable places after one more node

-- a stable place that the nodes had before
record OldPlace (front left : List Node) : Type 0 where
  rest : List Node
  parts : front ≡ left ++ rest
  stable : IsStable left rest

-- a stable place whose third natural cut is the node
record NewPlace (front : List Node) (node : Node) (left : List Node) : Type 0 where
  rest : List Node
  parts : front ≡ left ++ rest
  ends : EndsStable left
  gap : IsStableGap rest
  cut : Cut node

pub BeginsStable-append : (front back : List Node) → BeginsStable front → BeginsStable (front ++ back)
BeginsStable-append front back h = record {
  between = h.between;
  first = h.first;
  after = h.after ++ back;
  parts = ap (λ (l : List Node). l ++ back) h.parts ∙ append_assoc h.between (h.first ∷ h.after) back;
  first_cut = h.first_cut;
  gap = h.gap;
}

place_of_rest : (front : List Node) (node : Node) (left rest : List Node) → front ≡ left ++ rest → EndsStable left → BeginsStable (rest ++ node ∷ []) →
    OldPlace front left ⊎ NewPlace front node left
place_of_rest front node left rest e ends h = elim (meets rest (node ∷ []) h.between (h.first ∷ h.after) h.parts) [
  | same p q ↦
      let at : h.first ≡ node = cc in
      inr (record {
        rest = rest;
        parts = e;
        ends = ends;
        gap = subst IsStableGap (sym p) h.gap;
        cut = subst Cut at h.first_cut;
      })
  | earlier x gap p q ↦ absurd (let len = ap length q in omega (arith, length-append gap (h.first ∷ h.after)))
  | later x gap p q ↦
      let at : x ≡ h.first = cc in
      let begins : BeginsStable rest = record {
        between = h.between;
        first = h.first;
        after = gap;
        parts = p ∙ ap (λ (y : Node). h.between ++ y ∷ gap) at;
        first_cut = h.first_cut;
        gap = h.gap;
      } in
      inl (record { rest = rest; parts = e; stable = record { ends = ends; begins = begins } })
]

pub BeginsStable-long : (nodes : List Node) → BeginsStable nodes → 3 ≤ length nodes
BeginsStable-long nodes h =
    let two = h.gap.two in
    let len = ap length h.parts in
    omega (arith, length-append h.between (h.first ∷ h.after))

push_place : (front : List Node) (node : Node) (left right : List Node) → front ++ node ∷ [] ≡ left ++ right → IsStable left right →
    OldPlace front left ⊎ NewPlace front node left
push_place front node left right e h =
    let long = BeginsStable-long right h.begins in
    elim (meets front (node ∷ []) left right e) [
      | same p q ↦ absurd (let len = ap length q in omega arith)
      | earlier x gap p q ↦ absurd (let len = ap length q in omega (arith, length-append gap right))
      | later x gap p q ↦ place_of_rest front node left (x ∷ gap) p h.ends (subst BeginsStable q h.begins)
    ]

-- nodes that end with a natural cut have it after each of their places
last_in_rest : (front : List Node) (x : Node) (gap : List Node) → EndsWithCut (front ++ x ∷ gap) → NoCut (x ∷ gap) → ⊥
last_in_rest front x gap ends none =
    let at = back_of front (x ∷ gap) ends.0 ends.1 (omega arith) ends.2 in
    not_among (x ∷ gap) at.0 ends.1 [] none at.2 ends.3

pub stable_ends : (nodes : List Node) → EndsStable nodes → EndsWithCut nodes × (3 ≤ length nodes)
stable_ends nodes h = EndsAfter-ends nodes (inl h)

-- no part that ends stable is longer than the head
within_head : (front left rest : List Node) (has_cut ends_stable : Bool) (since : ℕ) (h : IsScanned front has_cut ends_stable since) →
    front ≡ left ++ rest → EndsStable left → length left ≤ length h.head
within_head front left rest has_cut ends_stable since h e ends = elim (meets h.head h.tail left rest (sym h.parts ∙ e)) [
  | same p q ↦ let len = ap length p in omega arith
  | earlier x gap p q ↦
      absurd (last_in_rest h.head x gap (subst EndsWithCut p (stable_ends left ends).0) (NoCut-front (x ∷ gap) rest (subst NoCut q h.no_cut)))
  | later x gap p q ↦ let len = ap length p in omega (arith, length-append left (x ∷ gap))
]

-- nor is one before nodes without a natural cut shorter
beyond_head : (front left rest : List Node) (has_cut ends_stable : Bool) (since : ℕ) (h : IsScanned front has_cut ends_stable since) →
    front ≡ left ++ rest → NoCut rest → EndsStable left → length h.head ≤ length left
beyond_head front left rest true ends_stable since h e none ends = elim (meets h.head h.tail left rest (sym h.parts ∙ e)) [
  | same p q ↦ let len = ap length p in omega arith
  | earlier x gap p q ↦ let len = ap length p in omega (arith, length-append h.head (x ∷ gap))
  | later x gap p q ↦
      absurd (last_in_rest left x gap (subst EndsWithCut p (HeadIs-ends ends_stable h.head h.head_is)) (NoCut-front (x ∷ gap) h.tail (subst NoCut q none)))
]
beyond_head front left rest false true since h e none ends = absurd h.head_is
beyond_head front left rest false false since h e none ends = let len = ap length h.head_is in omega arith

pub EndsStable-head : (has_cut ends_stable : Bool) (head : List Node) → HeadIs has_cut ends_stable head → EndsStable head → ends_stable ≡ true
EndsStable-head has_cut true head h ends = refl
EndsStable-head true false head h ends = absurd (h.1 ends)
EndsStable-head false false head h ends = absurd (let long = (stable_ends head ends).1 in let len = ap length h in omega arith)

pub head_of_stable : (has_cut : Bool) (head : List Node) → HeadIs has_cut true head → EndsStable head
head_of_stable true head h = h
head_of_stable false head h = absurd h

completes_parts : (is_cut ends_stable : Bool) (since : ℕ) → is_cut && (ends_stable && is_stable_gap since) ≡ true →
    (is_cut ≡ true) × (ends_stable ≡ true) × ((2 ≤ since) × (since ≤ 6))
completes_parts is_cut ends_stable since e =
    let both = and_parts is_cut (ends_stable && is_stable_gap since) e in
    let rest = and_parts ends_stable (is_stable_gap since) both.1 in
    (both.0, rest.0, gap_parts since rest.1)

module _ (front : List Node) (has_cut ends_stable : Bool) (since : ℕ) (node : Node) (h : IsScanned front has_cut ends_stable since) where
  -- whether the node is the third natural cut of a stable place
  abbrev completing : Bool
  completing = is_cut node && (ends_stable && is_stable_gap since)

  -- a new stable place is that after the head
  new_place : (left : List Node) → NewPlace front node left → (completing ≡ true) × (length left ≡ length h.head)
  new_place left new =
      let within = within_head front left new.rest has_cut ends_stable since h new.parts new.ends in
      let beyond = beyond_head front left new.rest has_cut ends_stable since h new.parts new.gap.no_cut new.ends in
      let len : length h.head ≡ length left = omega arith in
      let at = same_place h.head h.tail left new.rest (sym h.parts ∙ new.parts) len in
      let stable = EndsStable-head has_cut ends_stable h.head h.head_is (subst EndsStable (sym at.0) new.ends) in
      let since_is = h.since_is in
      let len_tail = ap length at.1 in
      let two = new.gap.two in
      let six = new.gap.six in
      let is_gap = gap_from since (omega arith) (omega arith) in
      (and_from (is_cut node) (ends_stable && is_stable_gap since) new.cut (and_from ends_stable (is_stable_gap since) stable is_gap), sym len)

  -- where it isn't, each stable place was there before
  pub place_before : completing ≡ false → (left right : List Node) → front ++ node ∷ [] ≡ left ++ right → IsStable left right →
      (rest : List Node) × (front ≡ left ++ rest) × IsStable left rest
  place_before no_new left right e stable = elim (push_place front node left right e stable) [
    | inl old ↦ (old.rest, old.parts, old.stable)
    | inr new ↦ absurd (false≢true (sym no_new ∙ (new_place left new).0))
  ]

  pub NoStable-more : completing ≡ false → NoStable front → NoStable (front ++ node ∷ [])
  NoStable-more no_new none left right e stable =
      let before = place_before no_new left right e stable in
      none left before.0 before.1 before.2

  pub IsLastStable-more : (left right : List Node) → completing ≡ false → front ≡ left ++ right → IsLastStable left right → IsLastStable left (right ++ node ∷ [])
  IsLastStable-more left right no_new e last = record {
    stable = record { ends = last.stable.ends; begins = BeginsStable-append right (node ∷ []) last.stable.begins };
    last = λ l r p stable.
        let whole : front ++ node ∷ [] ≡ l ++ r = ap (λ (m : List Node). m ++ node ∷ []) e ∙ append_assoc left right (node ∷ []) ∙ p in
        let before = place_before no_new l r whole stable in
        last.last l before.0 (sym e ∙ before.1) before.2;
  }

  stable_new : completing ≡ true → IsStable h.head (h.tail ++ node ∷ [])
  stable_new new =
      let parts = completes_parts (is_cut node) ends_stable since new in
      let range = parts.2 in
      let since_is = h.since_is in record {
        ends = head_of_stable has_cut h.head (subst (λ (b : Bool). HeadIs has_cut b h.head) parts.1 h.head_is);
        begins = record {
          between = h.tail;
          first = node;
          after = [];
          parts = refl;
          first_cut = parts.0;
          gap = record { no_cut = h.no_cut; two = omega arith; six = omega arith };
        };
      }

  whole_new : (l r : List Node) → h.head ++ (h.tail ++ node ∷ []) ≡ l ++ r → front ++ node ∷ [] ≡ l ++ r
  whole_new l r e = ap (λ (m : List Node). m ++ node ∷ []) h.parts ∙ append_assoc h.head h.tail (node ∷ []) ∙ e

  pub IsLastStable-new : completing ≡ true → IsLastStable h.head (h.tail ++ node ∷ [])
  IsLastStable-new new = record {
    stable = stable_new new;
    last = λ l r e stable. elim (push_place front node l r (whole_new l r e) stable) [
      | inl old ↦ within_head front l old.rest has_cut ends_stable since h old.parts old.stable.ends
      | inr newer ↦ let len = (new_place l newer).1 in omega arith
    ];
  }

  pub IsFirstStable-new : completing ≡ true → NoStable front → IsFirstStable h.head (h.tail ++ node ∷ [])
  IsFirstStable-new new none = record {
    stable = stable_new new;
    first = λ l r e stable. elim (push_place front node l r (whole_new l r e) stable) [
      | inl old ↦ absurd (none l old.rest old.parts old.stable)
      | inr newer ↦ let len = (new_place l newer).1 in omega arith
    ];
  }

-- ---- more nodes after the first stable place

-- a list with a natural cut has its first one, whatever nodes stand after it
pub begins_in_front : (front back before : List Node) (cut : Node) (after : List Node) → front ≡ before ++ cut ∷ after → Cut cut → BeginsStable (front ++ back) → BeginsStable front
begins_in_front front back before cut after e is_cut h = elim (meets front back h.between (h.first ∷ h.after) h.parts) [
  | same p q ↦ absurd (not_among h.between before cut after h.gap.no_cut (sym p ∙ e) is_cut)
  | earlier x gap p q ↦
      let inner : h.between ≡ before ++ cut ∷ (after ++ x ∷ gap) =
      p ∙ ap (λ (l : List Node). l ++ x ∷ gap) e ∙ append_assoc before (cut ∷ after) (x ∷ gap) in
      absurd (not_among h.between before cut (after ++ x ∷ gap) h.gap.no_cut inner is_cut)
  | later x gap p q ↦
      let at : x ≡ h.first = cc in
      record {
        between = h.between;
        first = h.first;
        after = gap;
        parts = p ∙ ap (λ (y : Node). h.between ++ y ∷ gap) at;
        first_cut = h.first_cut;
        gap = h.gap;
      }
]

pub IsFirstStable-append : (left right back : List Node) → IsFirstStable left right → IsFirstStable left (right ++ back)
IsFirstStable-append left right back h = record {
  stable = record { ends = h.stable.ends; begins = BeginsStable-append right back h.stable.begins };
  first = λ l r e stable. elim (meets left (right ++ back) l r e) [
    | same p q ↦ let len = ap length p in omega arith
    | earlier x gap p q ↦ let len = ap length p in omega (arith, length-append left (x ∷ gap))
    | later x gap p q ↦
        let begins = h.stable.begins in
        let whole : r ≡ (x ∷ gap ++ right) ++ back = q ∙ sym (append_assoc (x ∷ gap) right back) in
        let cut_at : x ∷ gap ++ right ≡ (x ∷ gap ++ begins.between) ++ begins.first ∷ begins.after =
        ap (λ (m : List Node). x ∷ gap ++ m) begins.parts ∙ sym (append_assoc (x ∷ gap) begins.between (begins.first ∷ begins.after)) in
        let inner = begins_in_front (x ∷ gap ++ right) back (x ∷ gap ++ begins.between) begins.first begins.after cut_at begins.first_cut (subst BeginsStable whole stable.begins) in
        let same_list : left ++ right ≡ l ++ (x ∷ gap ++ right) = ap (λ (m : List Node). m ++ right) p ∙ append_assoc l (x ∷ gap) right in
        h.first l (x ∷ gap ++ right) same_list (record { ends = stable.ends; begins = inner })
  ];
}
