use Rattle.std.proofs.Common.{map, take}
use Rattle.std.specs.List.{AllZip}
use Rattle.serde_json.specs.View.{view}
use Rattle.level_nodes.specs.NodeJson.{ReadsNode}
use Rattle.level_nodes.proofs.node_json.read_nodes.Given as goal

abbrev pub invariant-nodes : goal.invariant-nodes
invariant-nodes g l = AllZip ReadsNode (map view (take l.value-index l.values)) l.nodes.items
