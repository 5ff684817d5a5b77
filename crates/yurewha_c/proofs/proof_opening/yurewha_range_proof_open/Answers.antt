use Rattle.std.proofs.Common.{arith}
use Rattle.std.proofs.lemmas.Grind.{common_steps}
use Rattle.yurewha_c.proofs.proof_opening.yurewha_range_proof_open.Goals as goal

pub returns-in-Ok-open-clause-shows : goal.returns-in-Ok-open-clause-shows
returns-in-Ok-open-clause-shows g c = grind (arith, common_steps)

pub returns-in-Err-open-clause-mismatch : goal.returns-in-Err-open-clause-mismatch
returns-in-Err-open-clause-mismatch g c = grind (arith, common_steps)
