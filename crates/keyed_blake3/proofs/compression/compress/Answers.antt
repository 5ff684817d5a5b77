use Rattle.std.proofs.Common.{arith, refl, ◌∙◌}
use Rattle.keyed_blake3.proofs.compression.compress.Goals as goal

pub returns : goal.returns
returns c =
    c.words_of.ensures
    ∙ (rw (c.value_of.ensures, c.quads_of.ensures)
    at (c.compress_all.ensures 0 c.args.counter c.args.block_len c.args.flags (omega arith) (rw (c.lanes_of-d.ensures, c.last_row.ensures.words) refl)))
