use Rattle.std.proofs.Common.{arith, ap, ◌∙◌}
use Rattle.keyed_blake3.specs.Steps.Rows.{quad_at}
use Rattle.keyed_blake3.proofs.compression.two.compress_two_from.Goals as goal

pub returns-clause-first : goal.returns-clause-first
returns-clause-first c = λ counter block_len flags last.
    rw c.quads_of.ensures.first at (c.compress_all.ensures 0 counter block_len flags (omega arith) (ap (quad_at 0) c.lanes_of.ensures ∙ last))

pub returns-clause-second : goal.returns-clause-second
returns-clause-second c = λ counter block_len flags last.
    rw c.quads_of.ensures.second at (c.compress_all.ensures 1 counter block_len flags (omega arith) (ap (quad_at 1) c.lanes_of.ensures ∙ last))
