use Rattle.std.proofs.Common.{refl}
use Rattle.keyed_blake3.proofs.Blake3.FourRows.{each_of_four}
use Rattle.keyed_blake3.proofs.Blake3.Rows.{sixteen}
use Rattle.keyed_blake3.proofs.compression.states.four_states.FourStatesStates16.quads.Goals as goal

pub returns : goal.returns
returns c =
    let m = c.args.m.now in
    rw (
      c.lanes_of.ensures,
      c.lanes_of-2.ensures,
      c.lanes_of-3.ensures,
      c.lanes_of-4.ensures,
      c.vector-p.ensures,
      c.vector-q.ensures,
      c.vector-r.ensures,
      c.vector-s.ensures,
      sixteen m.a m.full.0,
      sixteen m.b m.full.1,
      sixteen m.c m.full.2,
      sixteen m.d m.full.3,
    ) (each_of_four _ refl refl refl refl)
