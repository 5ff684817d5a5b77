use Rattle.std.proofs.Common.{◌-◌, ◌≡◌, ◌<◌, length, get_or, map, take, drop, sym, ap, ◌∙◌, arith}
use Rattle.std.proofs.lemmas.List.{get_or-map, length-map}
use Rattle.xet_roots.specs.Groups.{is_cut}
use Rattle.stable_points.specs.Steps.StableScan.{completes}
use Rattle.stable_points.proofs.StablePoints.Boundaries.{boundary_around}
use Rattle.stable_points.proofs.StablePoints.Loops.{since_more, NoneSoFar-none, NoneSoFar-more, NoneSoFar-found, NoneSoFar-all}
use Rattle.stable_points.proofs.search.find_stable_start_of.Goals as goal

pub scan-init : goal.scan-init
scan-init g c = rw c.new-scan.ensures (record { since = omega arith; so_far = NoneSoFar-none (map g.T.AsNode.node_of c.args.nodes.now) })

pub returns-then-completes-clause-first : goal.returns-then-completes-clause-first
returns-then-completes-clause-first g c =
    let node = g.T.AsNode.node_of in
    let listed = c.args.nodes.now in
    let within : c.scan.i < length listed = omega arith in
    let d = node c.index-nodes-i.result in
    let at = get_or-map node listed c.scan.i c.index-nodes-i.result d within in
    let is = c.is_natural_cut-is_cut.ensures ∙ ap is_cut (c.node.ensures ∙ ap node c.index-nodes-i.is ∙ sym at) in
    let new = ap (completes c.scan.scan) (sym is) ∙ sym c.completes.ensures ∙ c.if-completes.true in
    NoneSoFar-found (map node listed) c.scan.i c.scan.scan d (omega (arith, length-map listed node)) c.scan.invariant.since new c.scan.invariant.so_far

pub returns-then-completes-clause-boundary : goal.returns-then-completes-clause-boundary
returns-then-completes-clause-boundary g c =
    let nodes = map g.T.AsNode.node_of c.args.nodes.now in
    let place = c.scan.i - c.scan.scan.since_cut in
    boundary_around (take place nodes) (drop place nodes) (returns-then-completes-clause-first g c).stable.ends

pub scan-preserved : goal.scan-preserved
scan-preserved g c =
    let node = g.T.AsNode.node_of in
    let listed = c.args.nodes.now in
    let within : c.scan.i < length listed = omega arith in
    let d = node c.index-nodes-i.result in
    let at = get_or-map node listed c.scan.i c.index-nodes-i.result d within in
    let is = c.is_natural_cut-is_cut.ensures ∙ ap is_cut (c.node.ensures ∙ ap node c.index-nodes-i.is ∙ sym at) in
    let no_new = ap (completes c.scan.scan) (sym is) ∙ sym c.completes.ensures ∙ c.if-completes.false in
    let since = c.scan.invariant.since in
    rw c.pass.ensures (record {
      since = omega (arith, since_more c.scan.scan c.is_natural_cut-is_cut.result);
      so_far = rw is (NoneSoFar-more (map node listed) c.scan.i c.scan.scan d (omega (arith, length-map listed node)) no_new c.scan.invariant.so_far);
    })

pub returns-clause-none : goal.returns-clause-none
returns-clause-none g c =
    let listed = c.args.nodes.now in
    let node = g.T.AsNode.node_of in
    NoneSoFar-all (map node listed) c.scan.i c.scan.scan (omega (arith, length-map listed node)) c.scan.invariant.so_far
