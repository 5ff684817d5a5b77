use Rattle.std.proofs.Common.{◌≡◌, ℕ, ◌+◌, ◌<◌, length, get_or}
use Rattle.keyed_blake3.proofs.subtrees.moved.Given as goal

abbrev pub invariant-places : goal.invariant-places
invariant-places g l = record {
  size : length l.next ≡ g.row.L;
  next : (k : ℕ) → k < l.j → get_or l.next k 0 ≡ get_or l.places k 0 + l.by;
}
