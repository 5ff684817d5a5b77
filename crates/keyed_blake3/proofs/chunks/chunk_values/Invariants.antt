use Rattle.std.proofs.Common.{◌≡◌, ◌+◌, ◌<◌, ℕ, get_or}
use Rattle.keyed_blake3.specs.Steps.Blocks.{value_after}
use Rattle.keyed_blake3.specs.Steps.Lanes.{AreFull, chunk_at, lane}
use Rattle.keyed_blake3.proofs.chunks.chunk_values.Given as goal

abbrev pub invariant-chain : goal.invariant-chain
invariant-chain g l = record {
  full : AreFull g.row.L l.h;
  lanes : (j : ℕ) → j < g.row.L → lane j l.h ≡ value_after l.key (l.first + get_or l.places j 0) (chunk_at (get_or l.places j 0) l.chunks) 0 l.n;
}
