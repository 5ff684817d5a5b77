use Rattle.std.proofs.Common.{◌-◌, arith}
use Rattle.std.proofs.lemmas.Simd.{shifts_fit_splat}
use Rattle.keyed_blake3.proofs.Blake3.Rows.{rotated_lanes}
use Rattle.keyed_blake3.proofs.compression.states.rotated.Goals as goal

pub overflow_shr-result : goal.overflow_shr-result
overflow_shr-result g c = shifts_fit_splat 32 c.args.x g.row.N c.args.n c.requires.high

pub overflow_shl-result : goal.overflow_shl-result
overflow_shl-result g c = shifts_fit_splat 32 c.args.x g.row.N (32 - c.args.n) (omega arith)

pub returns : goal.returns
returns g c = rotated_lanes c.args.x g.row.N c.args.n c.fits-x.0 c.requires.low c.requires.high
