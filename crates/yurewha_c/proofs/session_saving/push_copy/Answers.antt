use Rattle.std.proofs.Common.{rules}
use Rattle.yurewha_c.proofs.session_saving.push_copy.Goals as goal

pub returns-in-Ok-push_run-clause-pushed : goal.returns-in-Ok-push_run-clause-pushed
returns-in-Ok-push_run-clause-pushed g c = search rules

pub returns-in-Ok-push_run-clause-status : goal.returns-in-Ok-push_run-clause-status
returns-in-Ok-push_run-clause-status g = search rules

pub returns-in-Err-push_run-clause-status : goal.returns-in-Err-push_run-clause-status
returns-in-Err-push_run-clause-status g = search rules
