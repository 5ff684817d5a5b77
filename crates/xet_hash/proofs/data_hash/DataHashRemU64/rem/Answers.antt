use Rattle.std.proofs.Common.{rules}
use Rattle.xet_hash.proofs.data_hash.DataHashRemU64.rem.Goals as goal

pub returns : goal.returns
returns g = search rules
