use Rattle.std.proofs.Common.{take, subst, sym, ap, ◌∙◌}
use Rattle.std.proofs.lemmas.List.{take_all, take_more}
use Rattle.xet_roots.specs.Groups.{is_cut}
use Rattle.stable_points.specs.StablePoints.{NoCut}
use Rattle.stable_points.proofs.StablePoints.CutPlaces.{NoCut-append}
use Rattle.stable_points.proofs.search.has_no_cut.Goals as goal

pub nodes-preserved : goal.nodes-preserved
nodes-preserved c =
    let nodes = c.args.nodes.now in
    let i = c.nodes.i in
    let d = c.index-nodes-i.result in
    let not_cut = sym (ap is_cut c.index-nodes-i.is) ∙ sym c.is_natural_cut.ensures ∙ c.if-is_natural_cut.false in
    subst NoCut (sym (take_more nodes i d c.nodes-test.true)) (NoCut-append (take i nodes) _ c.nodes.invariant (not_cut, tt))

pub returns : goal.returns
returns c = λ _. subst NoCut (take_all c.nodes.i c.args.nodes.now c.nodes-test.false) c.nodes.invariant
