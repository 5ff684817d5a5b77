-- What a list of candidates says of each place.
use Rattle.std.proofs.Common.{◌≡◌, ℕ, zero, suc, ◌+◌, true, false, List, [], ◌∷◌, sym, ap, subst, ◌∙◌, arith, inl, inr}
use Rattle.std.proofs.lemmas.Bool.{cases_Bool, cases_lt}
use Rattle.xet_chunker.specs.Candidates.{is_candidate, candidates}
use Rattle.xet_chunker.specs.CutChoice.{IsNext, NoneBetween}

-- one place more in front, which is no candidate
in_front : (m : List ℕ) (from to : ℕ) → is_candidate m (suc from) ≡ false → NoneBetween m (suc from) to → NoneBetween m from to
in_front m from to f none = λ place low high.
    elim (cases_lt (suc from) place) [
      | inl more ↦ none place more high
      | inr here ↦ let e : suc from ≡ place = omega arith in subst (λ (p : ℕ). is_candidate m p ≡ false) e f
    ]

pub given_none : (m : List ℕ) (from n : ℕ) → candidates m from n ≡ [] → NoneBetween m from (from + n + 1)
unfolding candidates
given_none m from zero e = λ place low high. absurd (omega arith)
given_none m from (suc n) e =
    let to : suc from + n + 1 ≡ from + suc n + 1 = omega arith in
    elim (cases_Bool (is_candidate m (suc from))) [
      | inl t ↦ absurd (let h = rw t at e in cc)
      | inr f ↦ let h = rw f at e in in_front m from (from + suc n + 1) f (subst (λ (k : ℕ). NoneBetween m (suc from) k) to (given_none m (suc from) n h))
    ]

pub given_next : (m : List ℕ) (from n : ℕ) → candidates m from n ≡ (from + n) ∷ [] → IsNext m from (from + n)
unfolding candidates
given_next m from zero e = absurd (cc)
given_next m from (suc n) e =
    let to : suc from + n ≡ from + suc n = omega arith in
    elim (cases_Bool (is_candidate m (suc from))) [
      | inl t ↦
          let h = rw t at e in
          let first : suc from ≡ from + suc n = cc in
          (subst (λ (k : ℕ). is_candidate m k ≡ true) first t, λ place low high. absurd (omega arith))
      | inr f ↦
          let h = rw f at e in
          let next : IsNext m (suc from) (suc from + n) = given_next m (suc from) n (h ∙ ap (λ (k : ℕ). k ∷ []) (sym to)) in (
            subst (λ (k : ℕ). is_candidate m k ≡ true) to next.0,
            in_front m from (from + suc n) f (subst (λ (k : ℕ). NoneBetween m (suc from) k) to next.1),
          )
    ]
