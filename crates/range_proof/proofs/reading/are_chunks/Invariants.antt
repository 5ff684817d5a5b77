use Rattle.range_proof.proofs.ReadingOf.{IsReadSoFar}
use Rattle.range_proof.proofs.reading.are_chunks.Given as goal

abbrev pub invariant-chunks : goal.invariant-chunks
invariant-chunks l = IsReadSoFar l.nodes l.data l.node-index l.rest
