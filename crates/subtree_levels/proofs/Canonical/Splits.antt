-- The split of a list under marks: whether there is one can be decided, there is at most one, and its middle has a
-- node.
use Rattle.std.proofs.Common.{◌≡◌, ℕ, ◌<◌, ◌≤◌, ◌⊎◌, Bool, true, false, List, [], ◌∷◌, ◌++◌, length, map, take, drop, refl, sym, ap, subst, ◌∙◌, inl, inr, arith, append-nil, length-append}
use Rattle.std.proofs.lemmas.Bool.{cases_lt}
use Rattle.std.proofs.lemmas.List.{drop-map, length-map, map-id, take-append-drop, take-map}
use Rattle.xet_roots.specs.Groups.{Node}
use Rattle.stable_points.specs.StablePoints.{EndsStable, BeginsStable}
use Rattle.subtree_levels.specs.Canonical.{IsLow, IsHigh, IsSplit}
use Rattle.stable_points.proofs.Lists.PlaceSearch.{same_place}
use Rattle.stable_points.proofs.StablePoints.Search.{first_stable, last_stable}

-- ---- either end

abbrev pub HasLow : Bool → List Node → Type 0
HasLow at_start nodes = (left : List Node) × (rest : List Node) × (nodes ≡ left ++ rest) × IsLow at_start left rest

abbrev pub HasHigh : Bool → List Node → Type 0
HasHigh at_end nodes = (middle : List Node) × (right : List Node) × (nodes ≡ middle ++ right) × IsHigh at_end middle right

pub low_or_none : (at_start : Bool) (nodes : List Node) → HasLow at_start nodes ⊎ ((left rest : List Node) → nodes ≡ left ++ rest → IsLow at_start left rest → ⊥)
low_or_none true nodes = inl ([], nodes, refl, refl)
low_or_none false nodes = elim (first_stable nodes) [
  | inl none ↦ inr (λ left rest e low. none left rest e low.stable)
  | inr found ↦ inl found
]

pub high_or_none : (at_end : Bool) (nodes : List Node) → HasHigh at_end nodes ⊎ ((middle right : List Node) → nodes ≡ middle ++ right → IsHigh at_end middle right → ⊥)
high_or_none true nodes = inl (nodes, [], sym (append-nil nodes), refl)
high_or_none false nodes = elim (last_stable nodes) [
  | inl none ↦ inr (λ middle right e high. none middle right e high.stable)
  | inr found ↦ inl found
]

pub same_low : (at_start : Bool) (left rest left' rest' : List Node) → left ++ rest ≡ left' ++ rest' → IsLow at_start left rest → IsLow at_start left' rest' →
    (left ≡ left') × (rest ≡ rest')
same_low true left rest left' rest' e low low' = same_place left rest left' rest' e (ap length low ∙ sym (ap length low'))
same_low false left rest left' rest' e low low' =
    let before = low.first left' rest' e low'.stable in
    let after = low'.first left rest (sym e) low.stable in
    same_place left rest left' rest' e (omega arith)

pub same_high : (at_end : Bool) (middle right middle' right' : List Node) → middle ++ right ≡ middle' ++ right' → IsHigh at_end middle right → IsHigh at_end middle' right' →
    (middle ≡ middle') × (right ≡ right')
same_high true middle right middle' right' e high high' =
    let len = ap length e in
    let none = ap length high in
    let none' = ap length high' in
    same_place middle right middle' right' e (omega (arith, length-append middle right, length-append middle' right'))
same_high false middle right middle' right' e high high' =
    let before = high.last middle' right' e high'.stable in
    let after = high'.last middle right (sym e) high.stable in
    same_place middle right middle' right' e (omega arith)

-- ---- the split

module _ (at_start at_end : Bool) where
  pub record HasSplit (nodes : List Node) : Type 0 where
    pub left : List Node
    pub middle : List Node
    pub right : List Node
    pub split : IsSplit at_start at_end nodes left middle right

  abbrev pub NoSplit : List Node → Type 0
  NoSplit nodes = (left middle right : List Node) → IsSplit at_start at_end nodes left middle right → ⊥

  pub split_or_none : (nodes : List Node) → HasSplit nodes ⊎ NoSplit nodes
  split_or_none nodes = elim (cases_lt (length nodes) 2) [
    | inl few ↦ inr (λ left middle right h. let several = h.several in omega arith)
    | inr several ↦ elim (low_or_none at_start nodes) [
      | inr none ↦ inr (λ left middle right h. none left (middle ++ right) h.parts h.low)
      | inl low ↦ elim (high_or_none at_end low.1) [
        | inr none ↦ inr (λ left middle right h.
            let at = same_low at_start low.0 low.1 left (middle ++ right) (sym low.2 ∙ h.parts) low.3 h.low in
            none middle right at.1 h.high)
        | inl high ↦ inl (record {
          left = low.0;
          middle = high.0;
          right = high.1;
          split = record {
            parts = low.2 ∙ ap (λ (l : List Node). low.0 ++ l) high.2;
            several = several;
            low = subst (IsLow at_start low.0) high.2 low.3;
            high = high.3;
          };
        })
      ]
    ]
  ]

  -- there is at most one
  pub same_split : (nodes left middle right left' middle' right' : List Node) → IsSplit at_start at_end nodes left middle right → IsSplit at_start at_end nodes left' middle' right' →
      (left ≡ left') × (middle ≡ middle') × (right ≡ right')
  same_split nodes left middle right left' middle' right' h k =
      let low = same_low at_start left (middle ++ right) left' (middle' ++ right') (sym h.parts ∙ k.parts) h.low k.low in
      let high = same_high at_end middle right middle' right' low.1 h.high k.high in
      (low.0, high.0, high.1)

-- the split at two places, of nodes in a form of the caller's own
pub split_at_places : {X : Type 0} (node : X → Node) (at_start at_end : Bool) (nodes left rest middle right : List X) (low high : ℕ) → 2 ≤ length nodes →
    left ≡ take low nodes → rest ≡ drop low nodes → middle ≡ take high rest → right ≡ drop high rest →
    IsLow at_start (take low (map node nodes)) (drop low (map node nodes)) → IsHigh at_end (take high (map node rest)) (drop high (map node rest)) →
    IsSplit at_start at_end (map node nodes) (map node left) (map node middle) (map node right)
split_at_places node at_start at_end nodes left rest middle right low high several is_left is_rest is_middle is_right is_low is_high =
    let all = map node nodes in
    let of_left : map node left ≡ take low all = ap (map node) is_left ∙ sym (take-map node low nodes) in
    let of_rest : map node rest ≡ drop low all = ap (map node) is_rest ∙ sym (drop-map node low nodes) in
    let of_middle : map node middle ≡ take high (map node rest) = ap (map node) is_middle ∙ sym (take-map node high rest) in
    let of_right : map node right ≡ drop high (map node rest) = ap (map node) is_right ∙ sym (drop-map node high rest) in
    let joined : map node middle ++ map node right ≡ drop low all = rw (of_middle, of_right) (take-append-drop high (map node rest)) ∙ of_rest in
    record {
      parts = rw (joined, of_left) (sym (take-append-drop low all));
      several = omega (arith, length-map nodes node);
      low = rw (joined, of_left) is_low;
      high = rw (of_middle, of_right) is_high;
    }

-- without an upper end after the lower one, there is no split
pub no_split_after : {X : Type 0} (node : X → Node) (at_start at_end : Bool) (nodes rest : List X) (low : ℕ) → rest ≡ drop low nodes →
    IsLow at_start (take low (map node nodes)) (drop low (map node nodes)) →
    ((middle right : List Node) → map node rest ≡ middle ++ right → IsHigh at_end middle right → ⊥) →
    (left middle right : List Node) → IsSplit at_start at_end (map node nodes) left middle right → ⊥
no_split_after node at_start at_end nodes rest low is_rest is_low none left middle right h =
    let all = map node nodes in
    let of_rest : map node rest ≡ drop low all = ap (map node) is_rest ∙ sym (drop-map node low nodes) in
    let same = same_low at_start (take low all) (drop low all) left (middle ++ right) (take-append-drop low all ∙ h.parts) is_low h.low in
    none middle right (of_rest ∙ same.1) h.high

-- the split of nodes that are the library's own
pub plain_split : (at_start at_end : Bool) (nodes left middle right : List Node) →
    IsSplit at_start at_end (map (λ (node : Node). node) nodes) (map (λ (node : Node). node) left) (map (λ (node : Node). node) middle) (map (λ (node : Node). node) right) →
    IsSplit at_start at_end nodes left middle right
plain_split at_start at_end nodes left middle right h = rw (map-id nodes, map-id left, map-id middle, map-id right) at h

EndsStable-some : (nodes : List Node) → EndsStable nodes → 0 < length nodes
EndsStable-some nodes h = let len = ap length h.parts in omega (arith, length-append h.before (h.first ∷ (h.between ++ h.last ∷ [])))

pub BeginsStable-some : (nodes : List Node) → BeginsStable nodes → 0 < length nodes
BeginsStable-some nodes h = let len = ap length h.parts in omega (arith, length-append h.between (h.first ∷ h.after))

-- the lower end stands before the upper one
pub middle_some : (at_start at_end : Bool) (nodes left middle right : List Node) → IsSplit at_start at_end nodes left middle right → 0 < length middle
middle_some at_start false nodes left middle right h = EndsStable-some middle h.high.stable.ends
middle_some false true nodes left middle right h =
    let none = ap length h.high in
    let some = BeginsStable-some (middle ++ right) h.low.stable.begins in
    omega (arith, length-append middle right)
middle_some true true nodes left middle right h =
    let none = ap length h.high in
    let none_before = ap length h.low in
    let several = h.several in
    let len = ap length h.parts in
    omega (arith, length-append left (middle ++ right), length-append middle right)

-- what is collapsed isn't longer than the list
pub middle_within : (at_start at_end : Bool) (nodes left middle right : List Node) → IsSplit at_start at_end nodes left middle right → length middle ≤ length nodes
middle_within at_start at_end nodes left middle right h =
    let len = ap length h.parts in omega (arith, length-append left (middle ++ right), length-append middle right)

-- with both ends marked, all nodes of a list of several are collapsed
pub closed_split : (nodes : List Node) → 2 ≤ length nodes → IsSplit true true nodes [] nodes []
closed_split nodes several = record { parts = sym (append-nil nodes); several = several; low = refl; high = refl }
