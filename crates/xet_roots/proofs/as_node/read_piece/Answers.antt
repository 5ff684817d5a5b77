use Rattle.std.proofs.Common.{ℕ, map, take, ap, ◌∙◌}
use Rattle.std.proofs.lemmas.List.{take_min}
use Rattle.xet_roots.proofs.as_node.read_piece.Goals as goal

pub returns : goal.returns
returns g c =
    let node = g.T.AsNode.node_of in
    let nodes = c.args.nodes.now in
    let front = c.split_at.ensures.front ∙ ap (λ (n : ℕ). take n nodes) c.min.ensures ∙ take_min 576 nodes in
    (rw c.clear.ensures.items at c.in_ok-push_nodes.ensures) ∙ ap (map node) front
