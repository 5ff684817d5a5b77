use Rattle.std.proofs.Common.{take, subst, sym, ap, ◌∙◌}
use Rattle.std.proofs.lemmas.Bool.{false≢true}
use Rattle.std.proofs.lemmas.List.{take_all, take_more}
use Rattle.xet_roots.specs.Groups.{is_cut}
use Rattle.stable_points.specs.StablePoints.{NoCut}
use Rattle.stable_points.proofs.StablePoints.CutPlaces.{NoCut-append}
use Rattle.stable_points.proofs.StablePoints.Ends.{begins_at_gap, begins_nowhere}
use Rattle.subtree_levels.proofs.sides.begins_stable.Goals as goal

pub returns-then-is_natural_cut : goal.returns-then-is_natural_cut
returns-then-is_natural_cut c =
    let nodes = c.args.nodes.now in
    let cut = sym (ap is_cut c.index-nodes-i.is) ∙ sym c.is_natural_cut.ensures ∙ c.if-is_natural_cut.true in
    let at = begins_at_gap nodes c.nodes.i c.index-nodes-i.result c.nodes-test.true cut c.nodes.invariant in
    let is = c.is_stable_gap.ensures in
    (λ t. at.1 (sym is ∙ t), λ t. is ∙ at.0 t)

pub nodes-preserved : goal.nodes-preserved
nodes-preserved c =
    let nodes = c.args.nodes.now in
    let i = c.nodes.i in
    let d = c.index-nodes-i.result in
    let not_cut = sym (ap is_cut c.index-nodes-i.is) ∙ sym c.is_natural_cut.ensures ∙ c.if-is_natural_cut.false in
    subst NoCut (sym (take_more nodes i d c.nodes-test.true)) (NoCut-append (take i nodes) _ c.nodes.invariant (not_cut, tt))

pub returns : goal.returns
returns c =
    let none = subst NoCut (take_all c.nodes.i c.args.nodes.now c.nodes-test.false) c.nodes.invariant in
    (λ t. absurd (false≢true t), λ begins. absurd (begins_nowhere c.args.nodes.now none begins))
