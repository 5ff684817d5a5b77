use Rattle.std.proofs.Common.{◌∙◌}
use Rattle.keyed_blake3.proofs.Blake3.ByBlocks.{value_after-more}
use Rattle.keyed_blake3.proofs.two_chunks.take_blocks.Goals as goal

pub returns : goal.returns
returns c =
    let x = c.block_of-of_first.ensures in
    let y = c.block_of-of_second.ensures in
    record {
      first = λ key e. c.compress_two.ensures.first ∙ rw (x.words, x.counter, x.len, x.flags)
          (value_after-more key c.args.counters.0 c.args.first.now c.args.flags c.args.n _ c.requires.first.1 e);
      second = λ key e. c.compress_two.ensures.second ∙ rw (y.words, y.counter, y.len, y.flags)
          (value_after-more key c.args.counters.1 c.args.second.now c.args.flags c.args.n _ c.requires.second.1 e);
    }
