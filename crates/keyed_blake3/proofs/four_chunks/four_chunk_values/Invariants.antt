use Rattle.std.proofs.Common.{◌≡◌, ◌+◌, ◌<◌, ℕ, get_or}
use Rattle.keyed_blake3.specs.Steps.Blocks.{value_after}
use Rattle.keyed_blake3.specs.Steps.Lanes.{chunk_at}
use Rattle.keyed_blake3.specs.Steps.Rows.{value_in}
use Rattle.keyed_blake3.proofs.four_chunks.four_chunk_values.Given as goal

abbrev pub invariant-chain : goal.invariant-chain
invariant-chain l = record {
  values : (j : ℕ) → j < 4 → value_in j l.h ≡ value_after l.key (l.first + get_or l.places j 0) (chunk_at (get_or l.places j 0) l.chunks) 0 l.n;
}
