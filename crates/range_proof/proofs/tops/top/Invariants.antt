use Rattle.range_proof.proofs.Opening.{IsRisen}
use Rattle.range_proof.proofs.tops.top.Given as goal

abbrev pub invariant-levels : goal.invariant-levels
invariant-levels g l = IsRisen l.chunks l.levels l.level-index l.nodes.items
