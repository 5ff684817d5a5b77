use Rattle.std.proofs.Common.{◌≡◌, ℕ, ◌<◌, ◌≤◌, length, get_or}
use Rattle.keyed_blake3.proofs.subtrees.neighbours.Given as goal

abbrev pub invariant-places : goal.invariant-places
invariant-places g l = record {
  size : length l.places ≡ g.row.L;
  low : (k : ℕ) → k < l.j → get_or l.places k 0 ≤ l.last;
  same : (k : ℕ) → k < l.j → k ≤ l.last → get_or l.places k 0 ≡ k;
}
