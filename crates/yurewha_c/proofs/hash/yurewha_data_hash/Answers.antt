use Rattle.std.proofs.Common.{rules}
use Rattle.yurewha_c.proofs.hash.yurewha_data_hash.Goals as goal

pub returns : goal.returns
returns g = search rules
