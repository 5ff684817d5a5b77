use Rattle.std.proofs.Common.{◌≢◌, ◌+◌, ◌<◌, ◌≤◌, ℕ, slice_index}
use Rattle.hash_numbers.specs.Steps.Places.{IsEntryOf}
use Rattle.hash_numbers.proofs.slots.find_near.Given as goal

abbrev pub invariant-window : goal.invariant-window
invariant-window g l = record {
  filled : (before : ℕ) → l.home ≤ before → before < l.place → slice_index l.numbers before ≢ 0;
  others : (i before : ℕ) → IsEntryOf l.entries i l.hash → l.home ≤ before → before < l.place → slice_index l.numbers before ≢ i + 1;
}
