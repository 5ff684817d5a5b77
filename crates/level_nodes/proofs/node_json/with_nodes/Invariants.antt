use Rattle.std.proofs.Common.{◌≡◌, ◌++◌, map, take}
use Rattle.std.specs.List.{AllByRecursion}
use Rattle.serde_json.specs.View.{view}
use Rattle.xet_hash.specs.Hash.{IsHash}
use Rattle.level_nodes.specs.NodeJson.{node_json}
use Rattle.level_nodes.proofs.node_json.with_nodes.Given as goal

abbrev pub invariant-nodes : goal.invariant-nodes
invariant-nodes l = record {
  values : map view l.values.items ≡ map view l.fn.values.items ++ map node_json (take l.hash-index l.nodes);
  hashes : AllByRecursion (λ node. IsHash node.0) (take l.hash-index l.nodes);
}
