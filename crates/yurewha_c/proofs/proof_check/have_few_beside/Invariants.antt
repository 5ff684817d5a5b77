use Rattle.std.proofs.Common.{take}
use Rattle.yurewha_c.specs.ProofLists.{HaveFewBeside}
use Rattle.yurewha_c.proofs.proof_check.have_few_beside.Given as goal

abbrev pub invariant-levels : goal.invariant-levels
invariant-levels l = HaveFewBeside (take l.level-index l.levels)
