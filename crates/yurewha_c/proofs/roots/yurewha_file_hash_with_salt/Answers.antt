use Rattle.std.proofs.Common.{rules}
use Rattle.yurewha_c.proofs.roots.yurewha_file_hash_with_salt.Goals as goal

pub returns : goal.returns
returns g = search rules
