use Rattle.std.proofs.Common.{rules}
use Rattle.xet_hash.proofs.data_hash.DataHash.from_hex.Goals as goal

pub returns-clause-accepted : goal.returns-clause-accepted
returns-clause-accepted g = search rules

pub returns-clause-value : goal.returns-clause-value
returns-clause-value g = search rules
