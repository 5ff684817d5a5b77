use Rattle.std.proofs.Common.{rules}
use Rattle.passthrough_map.proofs.passthrough_hashmap.PassThroughHashMap.as_map_mut.Goals as goal

pub returns : goal.returns
returns g c = search rules
