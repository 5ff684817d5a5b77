use Rattle.std.proofs.Common.{rules}
use Rattle.xet_hash.proofs.data_hash.compute_two_internal_node_hashes.Goals as goal

pub returns-clause-second : goal.returns-clause-second
returns-clause-second g = search rules
