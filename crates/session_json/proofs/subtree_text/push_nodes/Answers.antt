use Rattle.std.proofs.Common.{◌++◌, ◌+◌, ◌∷◌, List, ℕ, drop, map, subst, sym, ap, ◌∙◌}
use Rattle.std.proofs.lemmas.List.{drop_all, drop_more}
use Rattle.serde_json.specs.View.{items_of}
use Rattle.serde_json.specs.Written.{items_text}
use Rattle.xet_roots.specs.Groups.{Node}
use Rattle.level_nodes.specs.NodeJson.{node_json}
use Rattle.session_json.proofs.Text.{Lacks, lacks_next}
use Rattle.session_json.proofs.subtree_text.push_nodes.Goals as goal

pub nodes-preserved : goal.nodes-preserved
nodes-preserved c = λ rest.
    let nodes : List Node = c.args.nodes.now in
    let i = c.nodes.node-index in
    let node : Node = c.node-item.result in
    let whole : List ℕ = c.args.text.now.items ++ items_text c.args.later (items_of (map node_json (nodes ++ rest))) in
    let next = ap (λ (l : List Node). l ++ rest) (drop_more nodes i node c.nodes-test.true ∙ ap (λ (n : Node). n ∷ drop (i + 1) nodes) (sym c.node-item.is)) in
    rw (c.in_ok-push_node.ensures, c.in_ok-push_comma.ensures)
    (lacks_next node_json whole c.nodes.text.items c.nodes.later node (drop (i + 1) nodes ++ rest)
    (subst (Lacks node_json whole c.nodes.text.items c.nodes.later) next (c.nodes.invariant rest)))

pub returns : goal.returns
returns c = λ rest.
    let nodes : List Node = c.args.nodes.now in
    let whole : List ℕ = c.args.text.now.items ++ items_text c.args.later (items_of (map node_json (nodes ++ rest))) in
    subst (Lacks node_json whole c.nodes.text.items c.nodes.later)
    (ap (λ (l : List Node). l ++ rest) (drop_all c.nodes.node-index nodes c.nodes-test.false)) (c.nodes.invariant rest)
