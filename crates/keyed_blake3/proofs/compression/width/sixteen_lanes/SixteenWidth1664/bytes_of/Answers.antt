use Rattle.std.proofs.Common.{◌^◌}
use Rattle.keyed_blake3.proofs.Blake3.LaneBytes.{each_below, words_again}
use Rattle.keyed_blake3.proofs.compression.width.sixteen_lanes.SixteenWidth1664.bytes_of.Goals as goal

pub returns : goal.returns
returns c = rw (c.bytes.ensures, c.vector.ensures) (words_again 16 c.args.x.now c.told-x (each_below (2 ^ 32) c.args.x.now c.fits-x))
