use Rattle.std.proofs.Common.{arith, refl, ◌∙◌}
use Rattle.keyed_blake3.proofs.Blake3.Rows.{sixteen}
use Rattle.keyed_blake3.proofs.compression.two.quads_of.Goals as goal

pub returns-clause-first : goal.returns-clause-first
returns-clause-first c =
    c.quads.ensures 0 (omega arith)
    ∙ rw (
      c.lanes_of.ensures,
      c.lanes_of-2.ensures,
      c.lanes_of-3.ensures,
      c.lanes_of-4.ensures,
      c.beside.ensures.words,
      c.beside-2.ensures.words,
      c.beside-3.ensures.words,
      c.beside-4.ensures.words,
      sixteen c.args.first.now c.told-first,
    ) refl

pub returns-clause-second : goal.returns-clause-second
returns-clause-second c =
    c.quads.ensures 1 (omega arith)
    ∙ rw (
      c.lanes_of.ensures,
      c.lanes_of-2.ensures,
      c.lanes_of-3.ensures,
      c.lanes_of-4.ensures,
      c.beside.ensures.words,
      c.beside-2.ensures.words,
      c.beside-3.ensures.words,
      c.beside-4.ensures.words,
      sixteen c.args.first.now c.told-first,
      sixteen c.args.second.now c.told-second,
    ) refl
