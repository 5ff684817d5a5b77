use Rattle.std.proofs.Common.{rules}
use Rattle.yurewha_c.proofs.status.status_of_proof.Goals as goal

pub returns-in-InvalidJson : goal.returns-in-InvalidJson
returns-in-InvalidJson g = search rules
