use Rattle.std.proofs.Common.{rules}
use Rattle.xet_hash.proofs.data_hash.compared.DataHashOrd.cmp.Goals as goal

pub returns : goal.returns
returns g = search rules
