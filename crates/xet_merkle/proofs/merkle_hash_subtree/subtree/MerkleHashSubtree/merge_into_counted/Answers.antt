use Rattle.std.proofs.Common.{rules}
use Rattle.xet_merkle.proofs.merkle_hash_subtree.subtree.MerkleHashSubtree.merge_into_counted.Goals as goal

pub returns-clause-merged : goal.returns-clause-merged
returns-clause-merged g c = search rules
