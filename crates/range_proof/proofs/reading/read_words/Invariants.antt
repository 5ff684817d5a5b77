use Rattle.std.proofs.Common.{take}
use Rattle.range_proof.specs.RangeProof.{AreHashes}
use Rattle.range_proof.proofs.reading.read_words.Given as goal

abbrev pub invariant-nodes : goal.invariant-nodes
invariant-nodes l = AreHashes (take l.node-index l.nodes)
