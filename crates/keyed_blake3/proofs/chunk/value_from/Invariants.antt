use Rattle.std.proofs.Common.{◌≡◌, ℕ, List}
use Rattle.keyed_blake3.specs.Blake3.{after_blocks}
use Rattle.keyed_blake3.specs.Steps.Blocks.{value_after}
use Rattle.keyed_blake3.proofs.chunk.value_from.Given as goal

abbrev pub invariant-chain : goal.invariant-chain
invariant-chain l = (key : List ℕ) → l.h ≡ value_after key l.counter l.chunk l.flags l.blocks → l.value ≡ after_blocks key l.counter l.chunk l.n
