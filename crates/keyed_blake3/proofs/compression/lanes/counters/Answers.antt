use Rattle.std.proofs.Common.{rules}
use Rattle.keyed_blake3.proofs.compression.lanes.counters.Goals as goal

pub counters-preserved : goal.counters-preserved
counters-preserved g = search rules
