use Rattle.std.proofs.Common.{take}
use Rattle.range_proof.specs.ProofJson.{HasFewBeside}
use Rattle.range_proof.proofs.proof_parts.have_few_beside.Given as goal

abbrev pub invariant-levels : goal.invariant-levels
invariant-levels g l = HasFewBeside (take l.level-index l.levels)
