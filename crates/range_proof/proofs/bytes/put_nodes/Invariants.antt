use Rattle.std.proofs.Common.{◌≡◌, ◌++◌, take}
use Rattle.std.specs.List.{flat_map}
use Rattle.range_proof.specs.ProofBytes.{node_bytes}
use Rattle.range_proof.proofs.bytes.put_nodes.Given as goal

abbrev pub invariant-nodes : goal.invariant-nodes
invariant-nodes g l = l.bytes.items ≡ l.fn.bytes.items ++ flat_map node_bytes (take l.hash-index l.nodes)
