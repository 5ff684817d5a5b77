use Rattle.std.proofs.Common.{arith, refl, ◌∙◌}
use Rattle.keyed_blake3.proofs.Blake3.Rows.{sixteen}
use Rattle.keyed_blake3.proofs.compression.quads_of.Goals as goal

pub returns : goal.returns
returns c =
    c.quads.ensures 0 (omega arith)
    ∙ rw (c.lanes_of.ensures, c.lanes_of-2.ensures, c.lanes_of-3.ensures, c.lanes_of-4.ensures, sixteen c.args.m.now c.told-m) refl
