use Rattle.std.proofs.Common.{◌≡◌, ℕ, ◌+◌, ap, ◌∙◌, get_or, rules}
use Rattle.std.proofs.lemmas.List.Sums.{sum_by_more, sum_by-take-le}
use Rattle.xet_roots.specs.Groups.{Node}
use Rattle.xet_roots.proofs.Roots.Pieces.{total_size-map}
use Rattle.xet_roots.proofs.as_node.total_size_of.Goals as goal

pub returns-in_err-total-clause-total : goal.returns-in_err-total-clause-total
returns-in_err-total-clause-total g c =
    let nodes = c.args.nodes.now in
    let i = c.sizes.node-index in
    let item = c.node-item.result in
    let size_of : g.row.T.Denot → ℕ = λ node. (g.T.AsNode.node_of node).1 in
    let size : c.node.result.1 ≡ size_of (get_or nodes i item) = ap (λ (node : Node). node.1) c.node.ensures ∙ ap size_of c.node-item.is in
    let more = sum_by_more size_of nodes i item c.sizes-test.true in
    let least = sum_by-take-le size_of nodes (i + 1) in
    rw (total_size-map g.T.AsNode.node_of nodes) (search (rules, size, more, least))
