use Rattle.std.proofs.Common.{take}
use Rattle.passthrough_map.specs.FiniteMap.{IsMapOf}
use Rattle.passthrough_map.proofs.passthrough_hashmap.PassThroughHashMap.from_slice.Given as goal

abbrev pub invariant-loop-key : goal.invariant-loop-key
invariant-loop-key g l = IsMapOf g.Key.PartialEq.eq (take l.key-index l.pairs) l.map
