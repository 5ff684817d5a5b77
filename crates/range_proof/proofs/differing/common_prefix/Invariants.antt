use Rattle.std.proofs.Common.{◌≡◌, take}
use Rattle.range_proof.proofs.differing.common_prefix.Given as goal

abbrev pub invariant-nodes : goal.invariant-nodes
invariant-nodes l = take l.k l.first ≡ take l.k l.second
