use Rattle.std.proofs.Common.{refl}
use Rattle.keyed_blake3.proofs.Blake3.FourRows.{each_of_four}
use Rattle.keyed_blake3.proofs.Blake3.Rows.{sixteen}
use Rattle.keyed_blake3.proofs.compression.states.four_states.FourStatesStates16.permuted.Goals as goal

pub returns : goal.returns
returns c =
    let m = c.args.m.now in
    rw (
      c.lanes_of.ensures,
      c.lanes_of-2.ensures,
      c.lanes_of-3.ensures,
      c.lanes_of-4.ensures,
      c.vector-x.ensures,
      c.vector-y.ensures,
      c.vector-z.ensures,
      c.vector-w.ensures,
      sixteen m.column_first m.full.0,
      sixteen m.column_second m.full.1,
      sixteen m.diagonal_first m.full.2,
      sixteen m.diagonal_second m.full.3,
    ) (each_of_four _ refl refl refl refl)
