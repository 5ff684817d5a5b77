use Rattle.std.proofs.Common.{◌≡◌, ℕ, ◌+◌, ◌<◌, ◌≤◌, List}
use Rattle.keyed_blake3.specs.Blake3.{blocks_before_last, chunk_value, words_at}
use Rattle.keyed_blake3.specs.Steps.Blocks.{value_after}
use Rattle.keyed_blake3.specs.Steps.Lanes.{AreFull, lane}
use Rattle.keyed_blake3.specs.Steps.Messages.{HasMessage}
use Rattle.keyed_blake3.proofs.messages.ended_values.Given as goal

abbrev pub invariant-chain : goal.invariant-chain
invariant-chain g l = record {
  full : AreFull g.row.L l.h;
  ended_full : AreFull g.row.L l.ended;
  lanes : (j : ℕ) (m : List ℕ) → j < g.row.L → HasMessage l.chunks l.places l.last l.rest j m → l.n ≤ blocks_before_last m + 1
      → lane j l.h ≡ value_after (words_at 8 l.key) 0 m 8 l.n;
  ended : (j : ℕ) (m : List ℕ) → j < g.row.L → HasMessage l.chunks l.places l.last l.rest j m → blocks_before_last m < l.n
      → lane j l.ended ≡ chunk_value (words_at 8 l.key) 0 m 8;
}
