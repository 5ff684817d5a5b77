use Rattle.std.proofs.Common.{◌≡◌, ◌≤◌, ◌⊎◌, true, false, List, [], ◌++◌, length, sym, ap, subst, ◌∙◌, inl, inr, arith, rules}
use Rattle.std.proofs.lemmas.Bool.{cases_lt}
use Rattle.xet_roots.specs.Groups.{Node}
use Rattle.stable_points.specs.Steps.StableScan.{scan_after, completes_none, AddsNoStableBefore}
use Rattle.stable_points.specs.declared.search.CutScan.{CutScan}
use Rattle.stable_points.proofs.StablePoints.Appending.{nothing_of, completes_none-append, since_after, scan_after-append}
use Rattle.stable_points.proofs.StablePoints.Prepending.{adds_none_before}
use Rattle.stable_points.proofs.search.adds_no_stable_before.Goals as goal

pub pass_all-requires-then-pass_all : goal.pass_all-requires-then-pass_all
pass_all-requires-then-pass_all c =
    let after_first = since_after c.new-scan.result c.args.first.now in
    let since_first = ap (λ scan. scan.since_cut) c.pass_all.ensures.scan in
    let none = ap (λ scan. scan.since_cut) c.new-scan.ensures in
    omega arith

pub pass_all-requires-then-pass_all-2 : goal.pass_all-requires-then-pass_all-2
pass_all-requires-then-pass_all-2 c =
    let after_first = since_after c.new-scan.result c.args.first.now in
    let after = since_after c.pass_all.new.self c.args.second.now in
    let since_first = ap (λ scan. scan.since_cut) c.pass_all.ensures.scan in
    let since = ap (λ scan. scan.since_cut) c.pass_all-then-pass_all.ensures.scan in
    let none = ap (λ scan. scan.since_cut) c.new-scan.ensures in
    let len = c.split_at.ensures.front_len in
    omega arith

pub returns-then-pass_all-2 : goal.returns-then-pass_all-2
returns-then-pass_all-2 c = λ is_true.
    let nodes = c.args.nodes.now in
    let near = c.split_at.result.0.now in
    let far = c.split_at.result.1.now in
    let first = c.args.first.now in
    let second = c.args.second.now in
    let start : CutScan = record { has_cut = false; ends_stable = false; since_cut = 0 } in
    let parts : nodes ≡ near ++ far = search rules in
    let fewest = c.min.ensures in
    let front_len = c.split_at.ensures.front_len in
    let back_len = c.split_at.ensures.back_len in
    let enough : (far ≡ []) ⊎ (14 ≤ length near) = elim (cases_lt (length nodes) 14) [
      | inl few ↦ inl (nothing_of far (omega arith))
      | inr many ↦ inr (omega arith)
    ] in
    let scan = c.new-scan.ensures in
    let after_first = c.pass_all.ensures.scan ∙ ap (λ s. scan_after s first) scan in
    let after_second = c.pass_all-then-pass_all.ensures.scan ∙ ap (λ s. scan_after s second) after_first in
    let none_first : completes_none start first ≡ true = ap (λ s. completes_none s first) (sym scan) ∙ sym c.pass_all.ensures.none ∙ c.if-pass_all.true in
    let none_second : completes_none (scan_after start first) second ≡ true =
    ap (λ s. completes_none s second) (sym after_first) ∙ sym c.pass_all-then-pass_all.ensures.none ∙ c.if-pass_all-2.true in
    let none_near : completes_none (scan_after (scan_after start first) second) near ≡ true =
    ap (λ s. completes_none s near) (sym after_second) ∙ sym c.pass_all-then-pass_all-2.ensures.none ∙ is_true in
    let none_more = completes_none-append start first second none_first none_second in
    let none = completes_none-append start (first ++ second) near none_more (ap (λ s. completes_none s near) (scan_after-append start first second) ∙ none_near) in
    subst (λ (l : List Node). AddsNoStableBefore (first ++ second) l) (sym parts) (adds_none_before (first ++ second) near far enough none)
