use Rattle.std.proofs.Common.{arith}
use Rattle.std.proofs.lemmas.Grind.{common_steps}
use Rattle.yurewha_c.proofs.proof_lists.write_proof.Goals as goal

pub returns-then-levels-len-clause-written : goal.returns-then-levels-len-clause-written
returns-then-levels-len-clause-written g c = grind (arith, common_steps)
