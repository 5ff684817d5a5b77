use Rattle.std.proofs.Common.{◌≡◌, ◌+◌, ◌/◌, ◌%◌, ◌^◌, ◌<◌, length, get_or, ℕ}
use Rattle.keyed_blake3.proofs.compression.lanes.counters.Given as goal

abbrev pub invariant-counters : goal.invariant-counters
invariant-counters g l = record {
  low_size : length l.low ≡ g.row.L;
  high_size : length l.high ≡ g.row.L;
  low : (k : ℕ) → k < l.j → get_or l.low k 0 ≡ (l.first + get_or l.places k 0) % 2 ^ 32;
  high : (k : ℕ) → k < l.j → get_or l.high k 0 ≡ (l.first + get_or l.places k 0) / 2 ^ 32;
}
