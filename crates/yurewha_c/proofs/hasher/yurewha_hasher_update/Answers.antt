use Rattle.std.proofs.Common.{rules}
use Rattle.yurewha_c.proofs.hasher.yurewha_hasher_update.Goals as goal

pub returns-clause-message : goal.returns-clause-message
returns-clause-message g c = search rules

pub returns-clause-count : goal.returns-clause-count
returns-clause-count g c = search rules
