-- Groups whose parents are hashed a few at a time, in another order than theirs.
use Rattle.std.proofs.Common.{◌≡◌, ◌≢◌, ◌⊎◌, ℕ, ◌+◌, ◌<◌, List, [], inl, inr, get_or, length, set, subst, sym, ap, ◌∙◌, arith}
use Rattle.std.proofs.lemmas.Bool.{cases_lt}
use Rattle.std.proofs.lemmas.List.{get_or-set_other, get_or-set_same}
use Rattle.xet_roots.specs.Groups.{Node}
use Rattle.xet_roots.specs.Roots.{parent_hash}
use Rattle.xet_roots.specs.Steps.Places.{IsListed, IsSettled}

-- two numbers are equal or not
pub cases_eq : (i j : ℕ) → (i ≡ j) ⊎ (i ≢ j)
cases_eq i j = elim (cases_lt i j) [
  | inl before ↦ inr (λ e. omega arith)
  | inr low ↦ elim (cases_lt j i) [ inl after ↦ inr (λ e. omega arith) | inr high ↦ inl (omega arith) ]
]

-- what an element is after one is replaced: the new one or the old one
pub set_cases : {A : Type 0} (P : ℕ → A → Type 0) (d : A) (l : List A) (j : ℕ) (x : A) → j < length l → P j x
    → (i : ℕ) → (i ≢ j → P i (get_or l i d)) → P i (get_or (set l j x) i d)
set_cases {A} P d l j x fits here i other = elim (cases_lt i j) [
  | inl before ↦ let ne : i ≢ j = λ e. omega arith in subst (P i) (sym (get_or-set_other l j i x d ne)) (other ne)
  | inr low ↦ elim (cases_lt j i) [
    | inl after ↦ let ne : i ≢ j = λ e. omega arith in subst (P i) (sym (get_or-set_other l j i x d ne)) (other ne)
    | inr high ↦
        let same : j ≡ i = omega arith in
        subst (λ (k : ℕ). P k (get_or (set l j x) k d)) same (subst (P j) (sym (get_or-set_same l j x d fits)) here)
  ]
]

module _ (groups : List (List Node)) (hashes : List (List ℕ)) (places : List ℕ) (n : ℕ) where
  -- one more place
  pub IsSettled-more : (j i : ℕ) → IsSettled groups hashes places n i → IsSettled groups hashes (set places n j) (n + 1) i
  IsSettled-more j i settled = elim settled [
    | inl made ↦ inl made
    | inr placed ↦
        let k : ℕ = placed.0 in
        let below : k < n = placed.1 in
        inr (k, omega arith, get_or-set_other places n k j 0 (λ e. omega arith) ∙ placed.2)
  ]

  -- the group at that place
  pub IsSettled-last : (j : ℕ) → n < length places → IsSettled groups hashes (set places n j) (n + 1) j
  IsSettled-last j fits = inr (n, omega arith, get_or-set_same places n j 0 fits)

  -- the places get their hashes
  pub IsSettled-hashed : (made : List (List ℕ)) (i : ℕ)
      → ((k : ℕ) → k < n → get_or made (get_or places k 0) [] ≡ parent_hash (get_or groups (get_or places k 0) []))
      → ((j : ℕ) → get_or hashes j [] ≡ parent_hash (get_or groups j []) → get_or made j [] ≡ parent_hash (get_or groups j []))
      → IsSettled groups hashes places n i → get_or made i [] ≡ parent_hash (get_or groups i [])
  IsSettled-hashed made i hashed kept settled = elim settled [
    | inl has ↦ kept i has
    | inr placed ↦ subst (λ (j : ℕ). get_or made j [] ≡ parent_hash (get_or groups j [])) placed.2 (hashed placed.0 placed.1)
  ]

-- a place is added to the list of the groups with len nodes
module _ (lists : List (List ℕ)) (counts : List ℕ) (len j : ℕ) (fits : len < length lists) (room : len < length counts) where
  pub IsListed-more : (other i : ℕ) → IsListed lists counts other i
      → IsListed (set lists len (set (get_or lists len []) (get_or counts len 0) j)) (set counts len (get_or counts len 0 + 1)) other i
  IsListed-more other i listed =
      let k : ℕ = listed.0 in
      let count : ℕ = get_or counts len 0 in
      let row : List ℕ = get_or lists len [] in
      let below : k < get_or counts other 0 = listed.1 in
      elim (cases_eq other len) [
        | inl same ↦
            let at : get_or counts other 0 ≡ count = ap (λ (m : ℕ). get_or counts m 0) same in
            let left : k < count = omega arith in
            subst (λ (m : ℕ). IsListed (set lists len (set row count j)) (set counts len (count + 1)) m i) (sym same) (
              k,
              rw (get_or-set_same counts len (count + 1) 0 room) (omega arith),
              ap (λ (l : List ℕ). get_or l k 0) (get_or-set_same lists len (set row count j) [] fits) ∙ get_or-set_other row count k j 0 (λ e. omega arith)
                  ∙ ap (λ (m : ℕ). get_or (get_or lists m []) k 0) (sym same) ∙ listed.2,
            )
        | inr differ ↦ (
          k,
          rw (get_or-set_other counts len other (count + 1) 0 differ) below,
          ap (λ (l : List ℕ). get_or l k 0) (get_or-set_other lists len other (set row count j) [] differ) ∙ listed.2,
        )
      ]

  pub IsListed-last : get_or counts len 0 < length (get_or lists len [])
      → IsListed (set lists len (set (get_or lists len []) (get_or counts len 0) j)) (set counts len (get_or counts len 0 + 1)) len j
  IsListed-last long = (
    get_or counts len 0,
    rw (get_or-set_same counts len (get_or counts len 0 + 1) 0 room) (omega arith),
    ap (λ (l : List ℕ). get_or l (get_or counts len 0) 0) (get_or-set_same lists len (set (get_or lists len []) (get_or counts len 0) j) [] fits)
        ∙ get_or-set_same (get_or lists len []) (get_or counts len 0) j 0 long,
  )
