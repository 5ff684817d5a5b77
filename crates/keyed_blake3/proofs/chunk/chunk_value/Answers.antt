use Rattle.keyed_blake3.proofs.Blake3.ByBlocks.{value_after-none}
use Rattle.keyed_blake3.proofs.chunk.chunk_value.Goals as goal

pub returns : goal.returns
returns c = c.value_from.ensures c.args.key.now (value_after-none c.args.key.now c.args.counter c.args.chunk.now c.args.flags)
