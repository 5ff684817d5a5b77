use Rattle.std.proofs.Common.{List, [], subst, ap, ◌∙◌, arith}
use Rattle.std.proofs.lemmas.List.{take_all}
use Rattle.xet_roots.specs.Groups.{Node, is_cut}
use Rattle.stable_points.proofs.StablePoints.Scan.{IsScanned, IsScanned-none}
use Rattle.stable_points.proofs.StablePoints.Loops.{since_more, Scanned-more}
use Rattle.stable_points.proofs.StablePoints.Ends.{scanned_ends}
use Rattle.stable_points.proofs.search.ends_stable.Goals as goal

pub scan-init : goal.scan-init
scan-init c = rw c.new-scan.ensures (record { since = omega arith; scanned = IsScanned-none })

pub scan-preserved : goal.scan-preserved
scan-preserved c =
    let nodes = c.args.nodes.now in
    let i = c.scan.i in
    let test = c.scan-test.true in
    let since = c.scan.invariant.since in
    let is = c.is_natural_cut.ensures ∙ ap is_cut c.index-nodes-i.is in
    rw c.pass.ensures (record {
      since = omega (arith, since_more c.scan.scan c.is_natural_cut.result);
      scanned = rw is (Scanned-more nodes i c.scan.scan [] c.index-nodes-i.result (omega arith) c.scan.invariant.scanned);
    })

pub returns : goal.returns
returns c =
    let scan = c.scan.scan in
    let whole = take_all c.scan.i c.args.nodes.now c.scan-test.false in
    let ends = scanned_ends c.args.nodes.now scan.has_cut scan.ends_stable scan.since_cut
    (subst (λ (l : List Node). IsScanned l scan.has_cut scan.ends_stable scan.since_cut) whole c.scan.invariant.scanned) in
    let is = c.is_end.ensures in
    (λ t. ends.1 (is.0 t), λ t. is.1 (ends.0 t))
