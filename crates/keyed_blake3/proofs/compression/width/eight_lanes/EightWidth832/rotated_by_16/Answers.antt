use Rattle.std.proofs.Common.{ℕ}
use Rattle.std.specs.Int.{rotate_right, w32}
use Rattle.keyed_blake3.proofs.Blake3.LaneBytes.{each_below, turned_by_2, words-turned}
use Rattle.keyed_blake3.proofs.compression.width.eight_lanes.EightWidth832.rotated_by_16.Goals as goal

pub returns : goal.returns
returns c =
    let x = c.args.x.now in
    rw (c.bytes.ensures, c.byte_vector.ensures)
    (words-turned 2 8 (λ (y : ℕ). rotate_right w32 y 16) x c.told-x (each_below 256 x c.fits-x) turned_by_2)
