-- What holds after a call fails.
use Rattle.std.specs.Prelude.{◌≡◌, ◌^◌, ◌<◌, ◌⊎◌, ℕ, Result, Ok, Err, IfErr, OnErr}
use Rattle.std.proofs.Common.{arith, ap, inl, inr}
use Rattle.chunk_ranges.specs.Ranges.{Refusals}
use Rattle.xet_roots.specs.declared.error.CoreError.{CoreError}
use Rattle.xet_roots.specs.declared.error.CoreError.TheVariants.{InvalidArguments, SizeOverflow, OutOfMemory}

-- what holds anyway
pub at_error : {T E P : Type 0} (result : Result T E) → P → OnErr result P
at_error (Ok value) holds = tt
at_error (Err error) holds = holds

-- ranges that have no mark between them, and whose sizes fit in 64 bits, are refused for memory alone
pub memory_alone : {T P : Type 0} (size : ℕ) (result : Result T CoreError) → Refusals P size result → P → size < 2 ^ 64
    → IfErr result (λ e. e ≡ OutOfMemory)
memory_alone size (Ok value) refusals unmarked fits = tt
memory_alone {T} {P} size (Err error) refusals unmarked fits = choose refusals.errors
  where
    choose : (error ≡ InvalidArguments) ⊎ ((error ≡ SizeOverflow) ⊎ (error ≡ OutOfMemory)) → error ≡ OutOfMemory
    choose (inl is) = absurd (refusals.arguments.0 (ap (λ e. Err e) is) unmarked)
    choose (inr (inl is)) = let (_, large) = refusals.overflow.0 (ap (λ e. Err e) is) in absurd (omega (arith, large, fits))
    choose (inr (inr is)) = is
