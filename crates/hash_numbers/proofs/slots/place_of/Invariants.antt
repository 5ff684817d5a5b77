use Rattle.std.proofs.Common.{◌≢◌, ◌<◌, ◌≤◌, ℕ, slice_index}
use Rattle.hash_numbers.proofs.slots.place_of.Given as goal

abbrev pub invariant-window : goal.invariant-window
invariant-window l = record {
  filled : (before : ℕ) → l.home ≤ before → before < l.place → slice_index l.numbers before ≢ 0;
  others : (before : ℕ) → l.home ≤ before → before < l.place → slice_index l.numbers before ≢ l.number;
}
