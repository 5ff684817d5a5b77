use Rattle.std.proofs.Common.{refl}
use Rattle.keyed_blake3.proofs.Blake3.FourRows.{each_of_four}
use Rattle.keyed_blake3.proofs.Blake3.Rows.{four}
use Rattle.keyed_blake3.proofs.compression.states.four_states.FourStatesStates16.each.Goals as goal

pub returns-clause-quads : goal.returns-clause-quads
returns-clause-quads c = rw (c.lanes_of.ensures, four c.args.quad c.fits-quad.0) (each_of_four _ refl refl refl refl)
