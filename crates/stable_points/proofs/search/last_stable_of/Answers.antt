use Rattle.std.proofs.Common.{◌<◌, length, map, sym, ap, ◌∙◌, arith}
use Rattle.std.proofs.lemmas.List.{get_or-map, length-map}
use Rattle.std.proofs.lemmas.Option.{IfSome_then}
use Rattle.xet_roots.specs.Groups.{is_cut}
use Rattle.stable_points.specs.Steps.StableScan.{completes}
use Rattle.stable_points.proofs.StablePoints.Loops.{since_more, LastSoFar-none, LastSoFar-more, LastSoFar-found, LastSoFar-last, LastSoFar-no_place}
use Rattle.stable_points.proofs.search.last_stable_of.Goals as goal
use Rattle.stable_points.proofs.search.last_stable_of.Goals.{then-completes, else-completes}

pub scan-init : goal.scan-init
scan-init g c = rw c.new-scan.ensures (record {
  since = omega arith;
  bound = tt;
  so_far = λ front is_front. LastSoFar-none (map g.T.AsNode.node_of c.args.nodes.now) c.args.after_cut front is_front;
})

pub scan-preserved : goal.scan-preserved
scan-preserved g c =
    let node = g.T.AsNode.node_of in
    let listed = c.args.nodes.now in
    let nodes = map node listed in
    let i = c.scan.i in
    let within : i < length listed = omega arith in
    let d = node c.index-nodes-i.result in
    let at = get_or-map node listed i c.index-nodes-i.result d within in
    let is = c.is_natural_cut-is_cut.ensures ∙ ap is_cut (c.node.ensures ∙ ap node c.index-nodes-i.is ∙ sym at) in
    let since = c.scan.invariant.since in
    let all = length-map listed node in
    rw c.pass.ensures (record {
      since = omega (arith, since_more c.scan.scan c.is_natural_cut-is_cut.result);
      bound = elim c.if-completes.branch [
        | then-completes w ↦ rw w.found-is (omega arith)
        | else-completes w ↦ rw w.found-is (IfSome_then c.scan.found c.scan.invariant.bound (λ p h. omega arith))
      ];
      so_far = λ front is_front. elim c.if-completes.branch [
        | then-completes w ↦
            let new = ap (completes c.scan.scan) (sym is) ∙ sym c.completes.ensures ∙ w.if-completes.true in
            rw (w.found-is, is) (LastSoFar-found nodes i c.scan.scan c.scan.found front d (omega (arith, all)) since new (c.scan.invariant.so_far front is_front))
        | else-completes w ↦
            let no_new = ap (completes c.scan.scan) (sym is) ∙ sym c.completes.ensures ∙ w.if-completes.false in
            rw (w.found-is, is) (LastSoFar-more nodes i c.scan.scan c.scan.found front d (omega (arith, all)) c.scan.invariant.bound no_new (c.scan.invariant.so_far front is_front))
      ];
    })

pub returns-clause-last : goal.returns-clause-last
returns-clause-last g c =
    let listed = c.args.nodes.now in
    let node = g.T.AsNode.node_of in
    LastSoFar-last (map node listed) c.scan.i c.scan.scan c.scan.found c.args.after_cut (omega (arith, length-map listed node)) c.scan.invariant.so_far

pub returns-clause-none : goal.returns-clause-none
returns-clause-none g c =
    let listed = c.args.nodes.now in
    let node = g.T.AsNode.node_of in
    LastSoFar-no_place (map node listed) c.scan.i c.scan.scan c.scan.found c.args.after_cut (omega (arith, length-map listed node)) c.scan.invariant.so_far
