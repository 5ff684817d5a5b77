-- Sums of the first of some things, such as places of nodes, and a search among them.
use Rattle.std.proofs.Common.{◌≡◌, ℕ, zero, suc, ◌+◌, ◌-◌, ◌<◌, ◌≤◌, List, [], ◌∷◌, ◌++◌, length, get_or, take, sym, ap, subst, ◌∙◌, inl, inr, arith, length-append}
use Rattle.std.specs.Prelude.{sum_by}
use Rattle.std.proofs.lemmas.Bool.{cases_lt}
use Rattle.std.proofs.lemmas.List.{get_or_append_left, get_or_push, get_or_default, take-append-le, take_all, take-take}
use Rattle.std.proofs.lemmas.List.Sums.{sum_by_push, sum_by-take-le}
use Rattle.range_proof.specs.Steps.Places.{AreSums}

module _ {X : Type 0} (f : X → ℕ) where
  at_none : (start k : ℕ) → k ≤ 0 → get_or (start ∷ []) k 0 ≡ start + sum_by f (take k [])
  at_none start zero h = omega arith
  at_none start (suc k) h = absurd (omega arith)

  -- no term yet
  pub AreSums-none : (start : ℕ) (sums : List ℕ) → sums ≡ start ∷ [] → AreSums f start [] sums
  AreSums-none start sums e = record {
    count = ap length e ∙ (let one : 1 ≡ 0 + 1 = omega arith in one);
    at = λ k h. ap (λ (l : List ℕ). get_or l k 0) e ∙ at_none start k h;
  }

  -- one term more
  pub AreSums-push : (start : ℕ) (done : List X) (sums : List ℕ) (x : X) (sum : ℕ) → AreSums f start done sums →
      sum ≡ (start + sum_by f done) + f x → AreSums f start (done ++ x ∷ []) (sums ++ sum ∷ [])
  AreSums-push start done sums x sum h e = record {
    count = let count = h.count in omega (arith, length-append done (x ∷ []), length-append sums (sum ∷ []));
    at = λ k within.
        let count = h.count in
        elim (cases_lt k (length sums)) [
          | inl before ↦
              get_or_append_left sums (sum ∷ []) 0 k before ∙ h.at k (omega arith)
              ∙ ap (λ (l : List X). start + sum_by f l) (sym (take-append-le k done (x ∷ []) (omega arith)))
          | inr last ↦
              let here : length sums ≡ k = omega (arith, length-append done (x ∷ [])) in
              get_or_push sums sum 0 k here ∙ e
              ∙ (let more : (start + sum_by f done) + f x ≡ start + sum_by f (done ++ x ∷ []) = omega (arith, sum_by_push f done x) in more)
              ∙ ap (λ (l : List X). start + sum_by f l) (sym (take_all k (done ++ x ∷ []) (omega (arith, length-append done (x ∷ [])))))
        ];
  }

  -- what `sums[k]` reads
  pub sum_read : (start : ℕ) (xs : List X) (sums : List ℕ) (k sum : ℕ) → AreSums f start xs sums → k ≤ length xs →
      sum ≡ get_or sums k sum → sum ≡ start + sum_by f (take k xs)
  sum_read start xs sums k sum h within read =
      let count = h.count in
      read ∙ get_or_default sums k sum 0 (omega arith) ∙ h.at k within

  -- more terms have a larger sum
  pub sums_rise : (xs : List X) (i j : ℕ) → i ≤ j → sum_by f (take i xs) ≤ sum_by f (take j xs)
  sums_rise xs i j below =
      subst (λ (l : List X). sum_by f l ≤ sum_by f (take j xs)) (take-take i j xs below) (sum_by-take-le f (take j xs) i)

-- a place is in one of the parts that some bounds end
pub record IsSearchable (bounds : List ℕ) (place : ℕ) : Type 0 where
  pub some : 0 < length bounds
  pub begin : get_or bounds 0 0 ≤ place
  pub end : place < get_or bounds (length bounds - 1) 0

-- it is in this part
pub record IsPart (bounds : List ℕ) (place part : ℕ) : Type 0 where
  pub within : part + 1 < length bounds
  pub begins : get_or bounds part 0 ≤ place
  pub ends : place < get_or bounds (part + 1) 0

module _ {X : Type 0} (f : X → ℕ) (xs : List X) (sums : List ℕ) (h : AreSums f 0 xs sums) where
  pub searchable : (place : ℕ) → place < sum_by f xs → IsSearchable sums place
  searchable place below =
      let count = h.count in
      let first = h.at 0 (omega arith) in
      let last : get_or sums (length xs) 0 ≡ 0 + sum_by f xs =
      h.at (length xs) (omega arith) ∙ ap (λ (l : List X). 0 + sum_by f l) (take_all (length xs) xs (omega arith)) in
      let same : length sums - 1 ≡ length xs = omega arith in
      record {
        some = omega arith;
        begin = omega arith;
        end = subst (λ (k : ℕ). place < get_or sums k 0) (sym same) (omega arith);
      }

  pub record IsIn (place part : ℕ) : Type 0 where
    pub within : part < length xs
    pub begins : sum_by f (take part xs) ≤ place
    pub ends : place < sum_by f (take (part + 1) xs)

  pub IsIn-from_part : (place part : ℕ) → IsPart sums place part → IsIn place part
  IsIn-from_part place part p =
      let count = h.count in
      let inside = p.within in
      let begin = h.at part (omega arith) in
      let end = h.at (part + 1) (omega arith) in
      let begins = p.begins in
      let ends = p.ends in
      record { within = omega arith; begins = omega arith; ends = omega arith }
