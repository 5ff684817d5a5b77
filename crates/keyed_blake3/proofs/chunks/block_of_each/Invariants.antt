use Rattle.std.proofs.Common.{◌≡◌, ◌+◌, ◌*◌, ◌<◌, [], drop, length, get_or, ℕ}
use Rattle.std.specs.Int.{from_le_bytes, w32}
use Rattle.keyed_blake3.proofs.chunks.block_of_each.Given as goal

abbrev pub invariant-rows : goal.invariant-rows
invariant-rows g l = record {
  size : length l.words ≡ 16;
  words : (k : ℕ) → k < g.row.L * l.i → (j : ℕ) → j < g.row.L → get_or (get_or l.words k []) j 0 ≡ from_le_bytes w32 (drop (1024 * get_or l.places j 0 + (64 * l.n + 4 * k)) l.chunks);
}
