use Rattle.keyed_blake3.specs.Steps.LaneRows.{words_of_bytes}
use Rattle.keyed_blake3.proofs.compression.width.sixteen_lanes.SixteenWidth1664.words_of.Goals as goal

pub returns : goal.returns
unfolding words_of_bytes
returns c = rw (c.lanes_of.ensures, c.byte_vector.ensures)
