use Rattle.std.proofs.Common.{refl}
use Rattle.keyed_blake3.proofs.Blake3.FourRows.{each_of_four}
use Rattle.keyed_blake3.proofs.Blake3.Rows.{sixteen}
use Rattle.keyed_blake3.proofs.compression.states.four_states.FourStatesStates16.turned.Goals as goal

pub returns : goal.returns
returns c =
    let v = c.args.v.now in
    rw (
      c.lanes_of.ensures,
      c.lanes_of-2.ensures,
      c.lanes_of-3.ensures,
      c.vector.ensures,
      c.vector-2.ensures,
      c.vector-3.ensures,
      sixteen v.a v.full.0,
      sixteen v.b v.full.1,
      sixteen v.c v.full.2,
      sixteen v.d v.full.3,
    ) (each_of_four _ refl refl refl refl)
