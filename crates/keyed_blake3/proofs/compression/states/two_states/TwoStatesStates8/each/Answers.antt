use Rattle.std.proofs.Common.{refl}
use Rattle.keyed_blake3.proofs.Blake3.Rows.{four}
use Rattle.keyed_blake3.proofs.Blake3.Subtrees.{two_lanes}
use Rattle.keyed_blake3.proofs.compression.states.two_states.TwoStatesStates8.each.Goals as goal

pub returns-clause-quads : goal.returns-clause-quads
returns-clause-quads c = rw (c.lanes_of.ensures, four c.args.quad c.fits-quad.0) (two_lanes _ refl refl)
