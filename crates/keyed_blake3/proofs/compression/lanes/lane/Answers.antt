use Rattle.keyed_blake3.proofs.Blake3.Lanes.{lane_read}
use Rattle.keyed_blake3.proofs.compression.lanes.lane.Goals as goal

pub returns : goal.returns
returns g c = lane_read c.args.j c.args.h.now c.told-h
