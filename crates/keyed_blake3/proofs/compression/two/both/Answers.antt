use Rattle.std.proofs.Common.{refl}
use Rattle.keyed_blake3.proofs.Blake3.Rows.{eight}
use Rattle.keyed_blake3.proofs.compression.two.both.Goals as goal

pub returns-clause-first : goal.returns-clause-first
returns-clause-first c = rw (c.lanes_of.ensures, c.lanes_of-2.ensures, c.beside.ensures.words, c.beside-2.ensures.words, eight c.args.first.now c.told-first) refl

pub returns-clause-second : goal.returns-clause-second
returns-clause-second c =
    rw (
      c.lanes_of.ensures,
      c.lanes_of-2.ensures,
      c.beside.ensures.words,
      c.beside-2.ensures.words,
      eight c.args.first.now c.told-first,
      eight c.args.second.now c.told-second,
    ) refl
