use Rattle.xet_merkle.proofs.Merging.Levels.{merged_plainly}
use Rattle.xet_merkle.proofs.merkle_hash_subtree.subtree.MerkleHashSubtree.merge_into.Goals as goal

pub returns-clause-merged : goal.returns-clause-merged
returns-clause-merged g c = merged_plainly _ _ _ _ c.in_ok-_maker.ensures.merged
