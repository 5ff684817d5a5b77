use Rattle.std.proofs.Common.{◌≡◌, ◌+◌, ◌&&◌, not, take, sym, ap, ◌∙◌, arith, rules, length-take}
use Rattle.std.proofs.lemmas.List.{take_more}
use Rattle.xet_roots.specs.Groups.{is_cut}
use Rattle.stable_points.specs.Steps.StableScan.{completes, next_scan, scan_after, completes_none}
use Rattle.stable_points.proofs.StablePoints.Appending.{scan_after-append, completes_none-push, since_after}
use Rattle.stable_points.proofs.search.CutScan.pass_all.Goals as goal
use Rattle.stable_points.proofs.search.CutScan.pass_all.Goals.{then-none, else-none}

pub pass-requires : goal.pass-requires
pass-requires c =
    let after = since_after c.args.self.now (take c.nodes.i c.args.nodes.now) in
    let since = ap (λ scan. scan.since_cut) c.nodes.invariant.scan in
    let room = c.requires in
    omega (arith, length-take c.nodes.i c.args.nodes.now)

pub nodes-preserved : goal.nodes-preserved
nodes-preserved c =
    let start = c.args.self.now in
    let nodes = c.args.nodes.now in
    let d = c.index-nodes-i.result in
    let is = c.is_natural_cut-is_cut.ensures ∙ ap is_cut c.index-nodes-i.is in
    let more = take_more nodes c.nodes.i d (omega arith) in
    let passed = take c.nodes.i nodes in
    let scan = c.nodes.invariant.scan in
    let next : next_scan c.nodes.self c.is_natural_cut-is_cut.result ≡ scan_after start (take (c.nodes.i + 1) nodes) =
    rw (is, scan, more) (sym (scan_after-append start passed _)) in
    let pushed : completes_none start (take (c.nodes.i + 1) nodes) ≡ c.nodes.none && not (completes c.nodes.self c.is_natural_cut-is_cut.result) =
    rw (is, scan, more, c.nodes.invariant.none) (completes_none-push start passed _) in
    record {
      scan = c.pass.ensures ∙ next;
      none = elim c.if-none.branch [
        | then-none w ↦ search rules
        | else-none w ↦ search rules
      ] ∙ sym pushed;
    }
