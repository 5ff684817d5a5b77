-- Adjacent ranges that were passed one after another: what is known of them, and the errors of merging them.
use Rattle.std.proofs.Common.{◌≡◌, ℕ, ◌+◌, ◌^◌, ◌<◌, ◌≤◌, ◌↔◌, inl, inr, Bool, true, false, IsTrue, Option, Some, None, List, [], ◌∷◌, ◌++◌, refl, sym, ap, subst, ◌∙◌, arith}
use Rattle.std.specs.Prelude.{SomeIff, Result, Ok, Err, IfErr}
use Rattle.std.proofs.lemmas.Bool.{cases_lt, false≢true}
use Rattle.std.proofs.lemmas.List.Sums.{sum_by-append, sum_by-cons}
use Rattle.xet_roots.specs.declared.error.CoreError.{CoreError}
use Rattle.xet_roots.specs.declared.error.CoreError.TheVariants.{InvalidArguments, SizeOverflow, OutOfMemory}
use Rattle.chunk_ranges.specs.declared.adjacent.Passed.{Passed}
use Rattle.chunk_ranges.specs.Ranges.{NoMarkBetween, Refusals, total_of}
use Rattle.chunk_ranges.specs.Steps.Adjacent.{IsPassed, Follows, refusal}
use Rattle.chunk_ranges.specs.Steps.RangeMerging.{end_of_last}

not_less : (m n : ℕ) → (m < n → ⊥) → n ≤ m
not_less m n none = elim (cases_lt m n) [ inl less ↦ absurd (none less) | inr more ↦ more ]

module _ {R : Type 0} (start end : R → Bool) (total : R → ℕ) where
  pub end_of_last-push : (ranges : List R) (range : R) → end_of_last end (ranges ++ range ∷ []) ≡ Some (end range)
  end_of_last-push [] range = refl
  end_of_last-push (first ∷ []) range = refl
  end_of_last-push (first ∷ next ∷ ranges) range = end_of_last-push (next ∷ ranges) range

  unmarked_push : (ranges : List R) (range : R) → NoMarkBetween start end ranges → Follows (end_of_last end ranges) (start range) → NoMarkBetween start end (ranges ++ range ∷ [])
  unmarked_push [] range marks follows = tt
  unmarked_push (first ∷ []) range marks follows = (follows.0, follows.1, tt)
  unmarked_push (first ∷ next ∷ ranges) range marks follows = (marks.0, marks.1, unmarked_push (next ∷ ranges) range marks.2 follows)

  unmarked_front : (ranges : List R) (range : R) → NoMarkBetween start end (ranges ++ range ∷ []) → NoMarkBetween start end ranges × Follows (end_of_last end ranges) (start range)
  unmarked_front [] range marks = (tt, tt)
  unmarked_front (first ∷ []) range marks = (tt, (marks.0, marks.1))
  unmarked_front (first ∷ next ∷ ranges) range marks =
      let rest = unmarked_front (next ∷ ranges) range marks.2 in
      ((marks.0, marks.1, rest.0), rest.1)

  pub IsPassed-none : IsPassed start end total (record { last_end = None; no_mark_between = true; total = Some 0 }) []
  IsPassed-none = record { last = refl; marks = (λ _. tt, λ _. refl); sum = (omega arith, refl) }

  pub IsPassed-push : (passed : Passed) (ranges : List R) (range : R) → IsPassed start end total passed ranges → (no_mark_between : Bool) →
      IsTrue no_mark_between ↔ (IsTrue passed.no_mark_between × Follows passed.last_end (start range)) → (sum : Option ℕ) →
      ((n : ℕ) → SomeIff passed.total (n < 2 ^ 64) n → SomeIff sum (n + total range < 2 ^ 64) (n + total range)) →
      IsPassed start end total (record { last_end = Some (end range); no_mark_between = no_mark_between; total = sum }) (ranges ++ range ∷ [])
  IsPassed-push passed ranges range h no_mark_between marks sum adds = record {
    last = sym (end_of_last-push ranges range);
    marks = (
      λ is. let both = marks.0 is in unmarked_push ranges range (h.marks.0 both.0) (subst (λ (e : Option Bool). Follows e (start range)) h.last both.1),
      λ all. let parts = unmarked_front ranges range all in marks.1 (h.marks.1 parts.0, subst (λ (e : Option Bool). Follows e (start range)) (sym h.last) parts.1),
    );
    sum =
        let whole : total_of total (ranges ++ range ∷ []) ≡ total_of total ranges + total range =
        sum_by-append total ranges (range ∷ []) ∙ (let one = sum_by-cons total range [] in omega arith) in
        subst (λ (n : ℕ). SomeIff sum (n < 2 ^ 64) n) (sym whole) (adds (total_of total ranges) h.sum);
  }

  pub allowed_ranges : (passed : Passed) (ranges : List R) → IsPassed start end total passed ranges → refusal passed.no_mark_between passed.total ≡ None →
      NoMarkBetween start end ranges × (total_of total ranges < 2 ^ 64)
  allowed_ranges passed ranges h none = allowed passed.no_mark_between passed.total none h.marks h.sum where
    allowed : (no_mark_between : Bool) (sum : Option ℕ) → refusal no_mark_between sum ≡ None → IsTrue no_mark_between ↔ NoMarkBetween start end ranges →
        SomeIff sum (total_of total ranges < 2 ^ 64) (total_of total ranges) → NoMarkBetween start end ranges × (total_of total ranges < 2 ^ 64)
    allowed false sum e marks fits = let clash : ⊥ = cc in absurd clash
    allowed true None e marks fits = let clash : ⊥ = cc in absurd clash
    allowed true (Some n) e marks fits = (marks.0 refl, fits.0)

  pub refused : {T : Type 0} (passed : Passed) (ranges : List R) (error : CoreError) → IsPassed start end total passed ranges →
      refusal passed.no_mark_between passed.total ≡ Some error → Refusals {T = T} (NoMarkBetween start end ranges) (total_of total ranges) (Err error)
  refused {T} passed ranges error h some = refuses passed.no_mark_between passed.total some h.marks h.sum where
    refuses : (no_mark_between : Bool) (sum : Option ℕ) → refusal no_mark_between sum ≡ Some error → IsTrue no_mark_between ↔ NoMarkBetween start end ranges →
        SomeIff sum (total_of total ranges < 2 ^ 64) (total_of total ranges) → Refusals {T = T} (NoMarkBetween start end ranges) (total_of total ranges) (Err error)
    refuses false sum e marks fits =
        let is : error ≡ InvalidArguments = cc in record {
          arguments = (λ _ all. false≢true (marks.1 all), λ _. ap Err is);
          overflow = (λ other. let clash : ⊥ = cc in absurd clash, λ all. absurd (false≢true (marks.1 all.0)));
          errors = inl is;
        }
    refuses true None e marks fits =
        let is : error ≡ SizeOverflow = cc in record {
          arguments = (λ other. let clash : ⊥ = cc in absurd clash, λ none. absurd (none (marks.0 refl)));
          overflow = (λ _. (marks.0 refl, not_less (total_of total ranges) (2 ^ 64) fits), λ _. ap Err is);
          errors = inr (inl is);
        }
    refuses true (Some n) e marks fits = let clash : ⊥ = cc in absurd clash

-- where nothing but memory refuses them
module _ {T : Type 0} {no_mark_between : Type 0} {size : ℕ} (marks : no_mark_between) (fits : size < 2 ^ 64) where
  pub accepted : (x : T) → Refusals no_mark_between size (Ok x)
  accepted x = record {
    arguments = (λ error. let clash : ⊥ = cc in absurd clash, λ none. absurd (none marks));
    overflow = (λ error. let clash : ⊥ = cc in absurd clash, λ all. absurd (let past = all.1 in omega arith));
    errors = tt;
  }

  pub out_of_memory : (error : CoreError) → error ≡ OutOfMemory → Refusals {T = T} no_mark_between size (Err error)
  out_of_memory error is = record {
    arguments = (λ other. let clash : ⊥ = cc in absurd clash, λ none. absurd (none marks));
    overflow = (λ other. let clash : ⊥ = cc in absurd clash, λ all. absurd (let past = all.1 in omega arith));
    errors = inr (inr is);
  }

  pub memory_alone : (result : Result T CoreError) → IfErr result (λ e. e ≡ OutOfMemory) → Refusals no_mark_between size result
  memory_alone (Ok x) h = accepted x
  memory_alone (Err error) h = out_of_memory error h

  -- what refuses them is memory
  pub for_memory : (error : CoreError) → Refusals {T = T} no_mark_between size (Err error) → error ≡ OutOfMemory
  for_memory error h = elim h.errors [
    | inl arguments ↦ absurd (h.arguments.0 (ap Err arguments) marks)
    | inr other ↦ elim other [
      | inl overflow ↦ absurd (let past = (h.overflow.0 (ap Err overflow)).1 in omega arith)
      | inr memory ↦ memory
    ]
  ]
