use Rattle.std.proofs.Common.{◌≡◌}
use Rattle.range_proof.specs.Differing.{take_last}
use Rattle.range_proof.proofs.differing.common_suffix.Given as goal

abbrev pub invariant-nodes : goal.invariant-nodes
invariant-nodes l = take_last l.k l.first ≡ take_last l.k l.second
