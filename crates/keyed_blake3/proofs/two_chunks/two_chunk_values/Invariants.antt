use Rattle.std.proofs.Common.{◌≡◌}
use Rattle.keyed_blake3.specs.Steps.Blocks.{value_after}
use Rattle.keyed_blake3.specs.Steps.Rows.{value_in}
use Rattle.keyed_blake3.proofs.two_chunks.two_chunk_values.Given as goal

abbrev pub invariant-chain : goal.invariant-chain
invariant-chain l = record {
  first : value_in 0 l.h ≡ value_after l.key l.counters.0 l.first l.flags l.n;
  second : value_in 1 l.h ≡ value_after l.key l.counters.1 l.second l.flags l.n;
}
