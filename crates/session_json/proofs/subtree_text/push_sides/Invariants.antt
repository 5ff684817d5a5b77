use Rattle.std.proofs.Common.{◌≤◌, ◌++◌, [], drop, take, length}
use Rattle.level_nodes.specs.FlatLevels.{flat_nodes, left_nodes, right_nodes}
use Rattle.level_nodes.specs.NodeJson.{node_json, nodes_json}
use Rattle.serde_json.specs.Written.{compact_text}
use Rattle.session_json.proofs.Text.{Lacks}
use Rattle.session_json.proofs.subtree_text.push_sides.Given as goal

abbrev pub invariant-lefts : goal.invariant-lefts
invariant-lefts l =
    Lacks node_json (l.fn.text.items ++ compact_text (nodes_json (flat_nodes l.subtree.levels []))) l.text.items l.later
    (left_nodes (drop l.level l.subtree.levels) ++ right_nodes l.subtree.levels)

abbrev pub invariant-rights : goal.invariant-rights
invariant-rights l = record {
  within : l.above ≤ length l.subtree.levels;
  lacks : Lacks node_json (l.fn.text.items ++ compact_text (nodes_json (flat_nodes l.subtree.levels []))) l.text.items l.later
      (right_nodes (take l.above l.subtree.levels));
}

abbrev pub decreases-rights : goal.decreases-rights
decreases-rights l = l.above
