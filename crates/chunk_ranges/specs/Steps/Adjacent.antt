-- What is known of adjacent ranges that were passed one after another.
use Rattle.std.specs.Prelude.{◌≡◌, ℕ, ◌^◌, ◌<◌, ◌↔◌, Bool, true, false, List, Option, Some, None, SomeIff, IsTrue}
use Rattle.xet_roots.specs.declared.error.CoreError.{CoreError}
use Rattle.xet_roots.specs.declared.error.CoreError.TheVariants.{InvalidArguments, SizeOverflow}
use Rattle.chunk_ranges.specs.declared.adjacent.Passed.{Passed}
use Rattle.chunk_ranges.specs.Ranges.{NoMarkBetween, total_of}
use Rattle.chunk_ranges.specs.Steps.RangeMerging.{end_of_last}

-- what is known of the ranges that were passed
pub record IsPassed {R : Type 0} (start end : R → Bool) (total : R → ℕ) (passed : Passed) (ranges : List R) : Type 0 where
  pub last : passed.last_end ≡ end_of_last end ranges
  pub marks : IsTrue passed.no_mark_between ↔ NoMarkBetween start end ranges
  pub sum : SomeIff passed.total (total_of total ranges < 2 ^ 64) (total_of total ranges)

-- no mark is between the last range, if there is one, and the next
abbrev pub Follows : Option Bool → Bool → Type 0
Follows None start = Unit {0}
Follows (Some end) start = (end ≡ false) × (start ≡ false)

-- why ranges of which this is known can't be merged, if there is a reason other than memory
abbrev pub refusal : Bool → Option ℕ → Option CoreError
refusal false total = Some InvalidArguments
refusal true None = Some SizeOverflow
refusal true (Some total) = None
