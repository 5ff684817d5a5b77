use Rattle.std.proofs.Common.{false, ◌||◌, [], map, refl}
use Rattle.serde_json.specs.Data.{array}
use Rattle.serde_json.specs.View.{items_of}
use Rattle.serde_json.specs.Written.{has_float}
use Rattle.level_nodes.specs.FlatLevels.{flat_nodes, count_of}
use Rattle.level_nodes.specs.NodeJson.{node_json, nodes_json}
use Rattle.xet_merkle.specs.SubtreeJson.{counts_json}
use Rattle.level_nodes.proofs.NoFloat.{neither, array-no_float}
use Rattle.xet_merkle.proofs.laws.subtree_json_has_no_float.Goals as goal

pub returns : goal.returns
returns c = λ subtree.
    let levels = array (items_of (map counts_json (map count_of subtree.levels))) in
    let nodes = nodes_json (flat_nodes subtree.levels []) in
    neither (has_float levels) (has_float nodes || false) (array-no_float counts_json (λ count. refl) (map count_of subtree.levels))
    (neither (has_float nodes) false (array-no_float node_json (λ node. refl) (flat_nodes subtree.levels [])) refl)
