use Rattle.std.proofs.Common.{◌≡◌, ℕ, ◌+◌, ◌-◌, ◌<◌, length, get_or, map, take, sym, ap, ◌∙◌, arith}
use Rattle.std.proofs.lemmas.List.{get_or-map, length-map, take_more}
use Rattle.xet_roots.specs.Groups.{is_cut}
use Rattle.stable_points.proofs.search.cut_before.Goals as goal

pub returns-then-is_natural_cut-clause-cut : goal.returns-then-is_natural_cut-clause-cut
returns-then-is_natural_cut-clause-cut g c =
    let node = g.T.AsNode.node_of in
    let listed = c.args.nodes.now in
    let all = map node listed in
    let place = c.nodes.count - 1 in
    let within : place < length listed = omega (arith, c.nodes.invariant) in
    let d = node c.index-nodes-count.result in
    let at = get_or-map node listed place c.index-nodes-count.result d within in
    let is = ap is_cut (at ∙ ap node (sym c.index-nodes-count.is) ∙ sym c.node.ensures) ∙ sym c.is_natural_cut.ensures ∙ c.if-is_natural_cut.true in
    let whole : c.nodes.count ≡ place + 1 = omega arith in
    let parts = ap (λ (n : ℕ). take n all) whole ∙ take_more all place d (omega (arith, length-map listed node)) in
    (take place all, get_or all place d, parts, is)
