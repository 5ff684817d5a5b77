use Rattle.std.proofs.Common.{◌≡◌, false, ◌||◌, map, List, refl}
use Rattle.serde_json.specs.Data.{array}
use Rattle.serde_json.specs.View.{items_of}
use Rattle.serde_json.specs.Written.{has_float}
use Rattle.xet_roots.specs.Groups.{Node}
use Rattle.level_nodes.specs.Level.{Level}
use Rattle.level_nodes.specs.NodeJson.{node_json, nodes_json}
use Rattle.level_nodes.proofs.NoFloat.{neither, array-no_float}
use Rattle.range_proof.specs.ProofJson.{sides_json}
use Rattle.range_proof.proofs.laws.proof_json_has_no_float.Goals as goal

nodes-no_float : (nodes : List Node) → has_float (nodes_json nodes) ≡ false
nodes-no_float = array-no_float node_json (λ node. refl)

sides-no_float : (sides : Level) → has_float (sides_json sides) ≡ false
sides-no_float sides =
    neither (has_float (nodes_json sides.left)) (has_float (nodes_json sides.right) || false) (nodes-no_float sides.left)
    (neither (has_float (nodes_json sides.right)) false (nodes-no_float sides.right) refl)

pub returns : goal.returns
returns c = λ proof.
    let levels = array (items_of (map sides_json proof.levels)) in
    neither (has_float (nodes_json proof.chunks)) (has_float levels || false) (nodes-no_float proof.chunks)
    (neither (has_float levels) false (array-no_float sides_json sides-no_float proof.levels) refl)
