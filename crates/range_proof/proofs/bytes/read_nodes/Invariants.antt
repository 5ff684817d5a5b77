use Rattle.std.proofs.Common.{◌≡◌, ◌%◌, ◌++◌, length}
use Rattle.std.specs.List.{flat_map}
use Rattle.range_proof.specs.ProofBytes.{AreNodes, node_bytes}
use Rattle.range_proof.proofs.bytes.read_nodes.Given as goal

abbrev pub invariant-nodes : goal.invariant-nodes
invariant-nodes g l = record {
  bytes : flat_map node_bytes l.nodes.items ++ l.rest ≡ l.fn.bytes;
  fit : AreNodes l.nodes.items;
  whole : length l.rest % 40 ≡ 0;
}

abbrev pub decreases-nodes : goal.decreases-nodes
decreases-nodes g l = length l.rest
