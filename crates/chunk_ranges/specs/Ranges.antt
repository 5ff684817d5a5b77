-- Adjacent ranges of any kind, by the marks and the sizes that they show.
use Rattle.std.specs.Prelude.{◌≡◌, ℕ, ◌^◌, ◌≤◌, ◌⊎◌, ◌↔◌, Bool, false, List, [], ◌∷◌, Result, IfErr, IsErrOf, sum_by}
use Rattle.xet_roots.specs.declared.error.CoreError.{CoreError}
use Rattle.xet_roots.specs.declared.error.CoreError.TheVariants.{InvalidArguments, SizeOverflow, OutOfMemory}

-- no mark is between adjacent ranges
abbrev pub NoMarkBetween : {R : Type 0} → (R → Bool) → (R → Bool) → List R → Type 0
NoMarkBetween start end [] = Unit {0}
NoMarkBetween start end (range ∷ []) = Unit {0}
NoMarkBetween start end (range ∷ next ∷ ranges) = (end range ≡ false) × (start next ≡ false) × NoMarkBetween start end (next ∷ ranges)

-- the sum of the sizes of all ranges
abbrev pub total_of : {R : Type 0} → (R → ℕ) → List R → ℕ
total_of total ranges = sum_by total ranges

-- the errors of making one range of adjacent ones: the first if and only if a mark is between them; the second if and
-- only if none is and their sizes add up to more than 2 ^ 64 - 1; and otherwise only a failed allocation
pub record Refusals {T : Type 0} (no_mark_between : Type 0) (size : ℕ) (result : Result T CoreError) : Type 0 where
  pub arguments : IsErrOf result InvalidArguments ↔ ¬ no_mark_between
  pub overflow : IsErrOf result SizeOverflow ↔ (no_mark_between × (2 ^ 64 ≤ size))
  pub errors : IfErr result (λ e. (e ≡ InvalidArguments) ⊎ ((e ≡ SizeOverflow) ⊎ (e ≡ OutOfMemory)))
