use Rattle.std.proofs.Common.{arith}
use Rattle.keyed_blake3.specs.Steps.LaneRows.{words_of_bytes}
use Rattle.keyed_blake3.proofs.Blake3.LaneBytes.{words_rotated}
use Rattle.keyed_blake3.proofs.compression.width.four_lanes.FourWidth416.rotated_by_16.Goals as goal

pub returns : goal.returns
unfolding words_of_bytes
returns c =
    rw c.bytes.ensures (words_rotated 4 16 c.args.x.now c.rotated.result (omega arith) (rw c.byte_vector-words.ensures at c.rotated.ensures))
