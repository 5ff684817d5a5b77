use Rattle.passthrough_map.specs.FiniteMap.{IsMapOf}
use Rattle.passthrough_map.proofs.passthrough_hashmap.PassThroughHashMap.from_pairs.Given as goal

abbrev pub invariant-pairs : goal.invariant-pairs
invariant-pairs g l = IsMapOf g.Key.PartialEq.eq l.yielded l.map
