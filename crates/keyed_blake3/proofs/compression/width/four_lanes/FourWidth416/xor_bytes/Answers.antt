use Rattle.std.proofs.Common.{sym, ◌∙◌}
use Rattle.keyed_blake3.proofs.Blake3.LaneBytes.{each_below, words-xor}
use Rattle.keyed_blake3.proofs.compression.width.four_lanes.FourWidth416.xor_bytes.Goals as goal

pub returns : goal.returns
returns c =
    let x = c.args.x.now in
    let y = c.args.y.now in
    rw (c.bytes.ensures, c.byte_vector.ensures, c.byte_vector-2.ensures)
    (words-xor 4 x y (c.told-x ∙ sym c.told-y) (each_below 256 x c.fits-x) (each_below 256 y c.fits-y))
