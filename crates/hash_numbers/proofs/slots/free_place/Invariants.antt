use Rattle.std.proofs.Common.{◌≢◌, ◌<◌, ◌≤◌, ℕ, slice_index}
use Rattle.hash_numbers.proofs.slots.free_place.Given as goal

abbrev pub invariant-window : goal.invariant-window
invariant-window l = (before : ℕ) → l.home ≤ before → before < l.place → slice_index l.numbers before ≢ 0
