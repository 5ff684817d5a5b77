use Rattle.std.proofs.Common.{List, drop, map, ◌++◌}
use Rattle.serde_json.specs.Written.{items_text}
use Rattle.serde_json.specs.View.{items_of}
use Rattle.xet_roots.specs.Groups.{Node}
use Rattle.level_nodes.specs.NodeJson.{node_json}
use Rattle.session_json.proofs.Text.{Lacks}
use Rattle.session_json.proofs.subtree_text.push_nodes.Given as goal

abbrev pub invariant-nodes : goal.invariant-nodes
invariant-nodes l =
    (rest : List Node) → Lacks node_json (l.initial.text.items ++ items_text l.initial.later (items_of (map node_json (l.nodes ++ rest)))) l.text.items l.later
    (drop l.node-index l.nodes ++ rest)
