use Rattle.std.proofs.Common.{◌≡◌, ℕ, List, ◌++◌, ◌+◌, ◌-◌, ◌*◌, ◌/◌, ◌%◌, ◌<◌, ◌≤◌, length}
use Rattle.keyed_blake3.specs.Blake3.{words_at}
use Rattle.keyed_blake3.specs.Blake3Hasher.{IsTaken}
use Rattle.keyed_blake3.specs.Steps.Tree.{IsAbsorbed, IsEnded}
use Rattle.keyed_blake3.proofs.hasher.Hasher.take_in.Given as goal

abbrev pub invariant-whole : goal.invariant-whole
invariant-whole l = record {
  count : l.self.count ≡ l.fn.self.count + length l.piece;
  number : 64 * l.number ≡ l.fn.self.count + l.start;
  start : l.start ≤ length l.piece;
  absorbed : l.start < length l.piece → (key m : List ℕ) → IsTaken key l.fn.self l.fn.number m → IsAbsorbed (words_at 8 key) l.self.tree l.number (m ++ l.piece);
  whole : l.start ≡ length l.piece → (l.number % 16 ≡ 0) × (16 < l.number);
  ended : l.start ≡ length l.piece → (key m : List ℕ) → IsTaken key l.fn.self l.fn.number m → IsEnded (words_at 8 key) l.self.tree (l.number / 16) (m ++ l.piece);
}

abbrev pub decreases-whole : goal.decreases-whole
decreases-whole l = length l.piece - l.start
