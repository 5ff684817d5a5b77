-- For a property that can be decided: whether a list has a place with it, and the first and the last such place. A
-- place in a list is the pair of the parts before and after it.
use Rattle.std.proofs.Common.{◌≡◌, ℕ, ◌+◌, ◌≤◌, ◌⊎◌, List, [], ◌∷◌, ◌++◌, length, refl, sym, ap, subst, inl, inr, arith, length-append}
use Rattle.xet_roots.proofs.Lists.Places.{meets}
use Rattle.xet_roots.proofs.Lists.Places.Meets.{same, earlier, later}

-- parts of the same length are the same
pub same_place : {A : Type 0} (l r l' r' : List A) → l ++ r ≡ l' ++ r' → length l ≡ length l' → (l ≡ l') × (r ≡ r')
same_place l r l' r' e len = elim (meets l r l' r' e) [
  | same p q ↦ (p, q)
  | earlier x gap p q ↦ absurd (let longer = ap length p in omega (arith, length-append l (x ∷ gap)))
  | later x gap p q ↦ absurd (let longer = ap length p in omega (arith, length-append l' (x ∷ gap)))
]

-- a property of places, and that each place has it or hasn't
abbrev pub AtPlaces : Type 0 → Type 1
AtPlaces A = List A → List A → Type 0

abbrev pub Decided : {A : Type 0} → AtPlaces A → Type 0
Decided {A} P = (l r : List A) → P l r ⊎ (P l r → ⊥)

abbrev pub NoPlace : {A : Type 0} → AtPlaces A → List A → Type 0
NoPlace {A} P nodes = (l r : List A) → nodes ≡ l ++ r → P l r → ⊥

-- the first and the last place of a list with a property
pub record FirstPlace {A : Type 0} (P : List A → List A → Type 0) (nodes : List A) : Type 0 where
  pub left : List A
  pub right : List A
  pub parts : nodes ≡ left ++ right
  pub here : P left right
  pub first : (l r : List A) → nodes ≡ l ++ r → P l r → length left ≤ length l

pub record LastPlace {A : Type 0} (P : List A → List A → Type 0) (nodes : List A) : Type 0 where
  pub left : List A
  pub right : List A
  pub parts : nodes ≡ left ++ right
  pub here : P left right
  pub last : (l r : List A) → nodes ≡ l ++ r → P l r → length l ≤ length left

-- what holds of the places of a list after its first node
at_rest : {A : Type 0} (P : AtPlaces A) (x : A) (xs : List A) → (P [] (x ∷ xs) → ⊥) → NoPlace (λ l r. P (x ∷ l) r) xs → NoPlace P (x ∷ xs)
at_rest P x xs not_here none [] r e h = not_here (subst (P []) (sym e) h)
at_rest P x xs not_here none (y ∷ l) r e h =
    let tail : xs ≡ l ++ r = cc in
    let head : y ≡ x = cc in
    none l r tail (subst (λ z. P (z ∷ l) r) head h)

only_place : {A : Type 0} (P : AtPlaces A) → (P [] [] → ⊥) → NoPlace P []
only_place P not_here [] [] e h = not_here h
only_place P not_here [] (x ∷ r) e h = absurd (let len = ap length e in omega arith)
only_place P not_here (x ∷ l) r e h = absurd (let len = ap length e in omega arith)

none_before : {A : Type 0} (P : AtPlaces A) (x : A) (xs : List A) (n : ℕ) → (P [] (x ∷ xs) → ⊥) → ((l r : List A) → xs ≡ l ++ r → P (x ∷ l) r → n ≤ length l) →
    (l r : List A) → x ∷ xs ≡ l ++ r → P l r → n + 1 ≤ length l
none_before P x xs n not_here first [] r e h = absurd (not_here (subst (P []) (sym e) h))
none_before P x xs n not_here first (y ∷ l) r e h =
    let tail : xs ≡ l ++ r = cc in
    let head : y ≡ x = cc in
    let rest = first l r tail (subst (λ z. P (z ∷ l) r) head h) in
    omega arith

none_after : {A : Type 0} (P : AtPlaces A) (x : A) (xs : List A) (n : ℕ) → ((l r : List A) → xs ≡ l ++ r → P (x ∷ l) r → length l + 1 ≤ n) →
    (l r : List A) → x ∷ xs ≡ l ++ r → P l r → length l ≤ n
none_after P x xs n last [] r e h = omega arith
none_after P x xs n last (y ∷ l) r e h =
    let tail : xs ≡ l ++ r = cc in
    let head : y ≡ x = cc in
    let rest = last l r tail (subst (λ z. P (z ∷ l) r) head h) in
    omega arith

pub first_place : {A : Type 0} (P : AtPlaces A) → Decided P → (nodes : List A) → NoPlace P nodes ⊎ FirstPlace P nodes
first_place P decided [] = elim (decided [] []) [
  | inl here ↦ inr (record { left = []; right = []; parts = refl; here = here; first = λ l r e h. omega arith })
  | inr not_here ↦ inl (only_place P not_here)
]
first_place P decided (x ∷ xs) = elim (decided [] (x ∷ xs)) [
  | inl here ↦ inr (record { left = []; right = x ∷ xs; parts = refl; here = here; first = λ l r e h. omega arith })
  | inr not_here ↦ elim (first_place (λ l r. P (x ∷ l) r) (λ l r. decided (x ∷ l) r) xs) [
    | inl none ↦ inl (at_rest P x xs not_here none)
    | inr found ↦ inr (record {
      left = x ∷ found.left;
      right = found.right;
      parts = ap (λ l. x ∷ l) found.parts;
      here = found.here;
      first = λ l r e h. let before = none_before P x xs (length found.left) not_here found.first l r e h in omega arith;
    })
  ]
]

pub last_place : {A : Type 0} (P : AtPlaces A) → Decided P → (nodes : List A) → NoPlace P nodes ⊎ LastPlace P nodes
last_place P decided [] = elim (decided [] []) [
  | inl here ↦ inr (record {
    left = [];
    right = [];
    parts = refl;
    here = here;
    last = λ l r e h. let len = ap length e in omega (arith, length-append l r);
  })
  | inr not_here ↦ inl (only_place P not_here)
]
last_place P decided (x ∷ xs) = elim (last_place (λ l r. P (x ∷ l) r) (λ l r. decided (x ∷ l) r) xs) [
  | inr found ↦ inr (record {
    left = x ∷ found.left;
    right = found.right;
    parts = ap (λ l. x ∷ l) found.parts;
    here = found.here;
    last = none_after P x xs (length (x ∷ found.left)) (λ l r e h. let before = found.last l r e h in omega arith);
  })
  | inl none ↦ elim (decided [] (x ∷ xs)) [
    | inl here ↦ inr (record {
      left = [];
      right = x ∷ xs;
      parts = refl;
      here = here;
      last = none_after P x xs 0 (λ l r e h. absurd (none l r e h));
    })
    | inr not_here ↦ inl (at_rest P x xs not_here none)
  ]
]
