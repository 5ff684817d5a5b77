use Rattle.std.proofs.Common.{refl}
use Rattle.keyed_blake3.proofs.Blake3.Rows.{eight}
use Rattle.keyed_blake3.proofs.compression.value_of.Goals as goal

pub returns : goal.returns
returns c = rw (c.lanes_of.ensures, c.lanes_of-2.ensures, eight c.args.h.now c.told-h) refl
