use Rattle.std.proofs.Common.{◌≡◌, ◌*◌, ◌<◌, drop, length, get_or, ℕ}
use Rattle.std.specs.Int.{from_le_bytes, w32}
use Rattle.keyed_blake3.proofs.chunk.words.Given as goal

abbrev pub invariant-words : goal.invariant-words
invariant-words g l = (length l.words ≡ g.row.N) × ((k : ℕ) → k < l.k → get_or l.words k 0 ≡ from_le_bytes w32 (drop (4 * k) l.bytes))
