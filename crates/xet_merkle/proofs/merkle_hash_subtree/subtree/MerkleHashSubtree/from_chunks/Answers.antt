use Rattle.std.proofs.lemmas.List.{map-id}
use Rattle.xet_merkle.proofs.merkle_hash_subtree.subtree.MerkleHashSubtree.from_chunks.Goals as goal

pub returns-clause-canonical : goal.returns-clause-canonical
returns-clause-canonical g c = rw (map-id c.args.chunks.now) at c.from_chunks_of.ensures.canonical

pub returns-clause-size : goal.returns-clause-size
returns-clause-size g c = rw (map-id c.args.chunks.now) at c.from_chunks_of.ensures.size

pub returns-clause-overflow : goal.returns-clause-overflow
returns-clause-overflow g c = rw (map-id c.args.chunks.now) at c.from_chunks_of.ensures.overflow
