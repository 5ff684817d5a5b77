use Rattle.xet_merkle.proofs.Merging.Levels.{merged_plainly}
use Rattle.xet_merkle.proofs.merkle_hash_subtree.subtree.as_range.MerkleHashSubtreeChunkRange.prepend.Goals as goal

pub returns-clause-stands : goal.returns-clause-stands
returns-clause-stands g c = (merged_plainly _ _ _ _ c.in_ok-_maker.ensures.merged).canonical
