use Rattle.std.proofs.lemmas.List.{map-id}
use Rattle.range_proof.proofs.hash_tree.HashTree.from_chunks.Goals as goal

pub returns-clause-chunks : goal.returns-clause-chunks
returns-clause-chunks g c = rw (map-id c.args.chunks.now) at c.from_chunks_of.ensures.chunks

pub returns-clause-overflow : goal.returns-clause-overflow
returns-clause-overflow g c = rw (map-id c.args.chunks.now) at c.from_chunks_of.ensures.overflow
