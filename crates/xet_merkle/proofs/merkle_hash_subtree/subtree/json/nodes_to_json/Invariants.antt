use Rattle.std.proofs.Common.{◌≡◌, ◌++◌, List, map, take, length}
use Rattle.std.specs.List.{AllByRecursion}
use Rattle.serde_json.specs.View.{view}
use Rattle.xet_hash.specs.Hash.{IsHash}
use Rattle.subtree_levels.specs.Levels.{Level}
use Rattle.level_nodes.specs.FlatLevels.{left_nodes, right_nodes}
use Rattle.level_nodes.specs.NodeJson.{node_json}
use Rattle.xet_merkle.proofs.merkle_hash_subtree.subtree.json.nodes_to_json.Given as goal

abbrev pub invariant-lefts : goal.invariant-lefts
invariant-lefts g l = record {
  values : map view l.values.items ≡ map node_json (left_nodes (take l.level-index l.levels));
  hashes : AllByRecursion (λ node. IsHash node.0) (left_nodes (take l.level-index l.levels));
}

abbrev pub invariant-rights : goal.invariant-rights
invariant-rights g l = record {
  done : List Level;
  parts : l.levels ≡ l.rest ++ done;
  values : map view l.values.items ≡ map node_json (left_nodes l.levels ++ right_nodes done);
  hashes : AllByRecursion (λ node. IsHash node.0) (left_nodes l.levels ++ right_nodes done);
}

abbrev pub decreases-rights : goal.decreases-rights
decreases-rights g l = length l.rest
