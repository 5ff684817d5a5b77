use Rattle.std.proofs.Common.{◌≡◌, ◌≤◌, ◌⊎◌, true, List, [], ◌++◌, length, drop, sym, ap, subst, ◌∙◌, inl, inr, arith, rules}
use Rattle.std.proofs.lemmas.Bool.{cases_lt}
use Rattle.xet_roots.specs.Groups.{Node}
use Rattle.stable_points.specs.Steps.StableScan.{after_cut, scan_after, completes_none, AddsNoStable}
use Rattle.stable_points.proofs.StablePoints.Appending.{nothing_of, completes_none-append, since_after, adds_none_after, adds_none_without}
use Rattle.stable_points.proofs.StablePoints.CutPlaces.{NoCut-append}
use Rattle.stable_points.proofs.search.adds_no_stable.Goals as goal

pub pass_all-requires-2 : goal.pass_all-requires-2
pass_all-requires-2 c =
    let late = c.split_at-2.result.1.now in
    let after = since_after c.new-scan.result late in
    let since = ap (λ scan. scan.since_cut) c.pass_all.ensures.scan in
    let none = ap (λ scan. scan.since_cut) c.new-scan.ensures in
    let len = c.split_at.ensures.back_len in
    let late_len = c.split_at-2.ensures.back_len in
    let sub = c.saturating_sub.ensures in
    omega arith

pub pass_all-requires-then-pass_all : goal.pass_all-requires-then-pass_all
pass_all-requires-then-pass_all c =
    let late = c.split_at-2.result.1.now in
    let after = since_after c.new-scan.result late in
    let after_first = since_after c.pass_all.new.self c.args.first.now in
    let since = ap (λ scan. scan.since_cut) c.pass_all.ensures.scan in
    let since_first = ap (λ scan. scan.since_cut) c.pass_all-2.ensures.scan in
    let none = ap (λ scan. scan.since_cut) c.new-scan.ensures in
    let len = c.split_at.ensures.back_len in
    let late_len = c.split_at-2.ensures.back_len in
    let sub = c.saturating_sub.ensures in
    omega arith

pub returns-then-pass_all : goal.returns-then-pass_all
returns-then-pass_all c = λ is_true.
    let nodes = c.args.nodes.now in
    let before = c.split_at.result.0.now in
    let near = c.split_at.result.1.now in
    let first = c.args.first.now in
    let second = c.args.second.now in
    let parts : nodes ≡ before ++ near = search rules in
    let enough : (before ≡ []) ⊎ (14 ≤ length near) = elim (cases_lt (length nodes) 14) [
      | inl few ↦ inl (nothing_of before (let len = c.split_at.ensures.front_len in let sub = c.saturating_sub.ensures in omega arith))
      | inr many ↦ inr (let len = c.split_at.ensures.back_len in let sub = c.saturating_sub.ensures in omega arith)
    ] in
    let scan = c.new-scan.ensures in
    let late_is : c.split_at-2.result.1.now ≡ drop c.late_start.result near = search rules in
    let after = c.pass_all.ensures.scan ∙ ap (λ s. scan_after s c.split_at-2.result.1.now) scan ∙ ap (scan_after after_cut) late_is ∙ c.late_start.ensures.scan in
    let none_first : completes_none (scan_after after_cut near) first ≡ true =
    ap (λ s. completes_none s first) (sym after) ∙ sym c.pass_all-2.ensures.none ∙ c.if-pass_all.true in
    let after_first = c.pass_all-2.ensures.scan ∙ ap (λ s. scan_after s first) after in
    let none_second : completes_none (scan_after (scan_after after_cut near) first) second ≡ true =
    ap (λ s. completes_none s second) (sym after_first) ∙ sym c.pass_all-then-pass_all.ensures.none ∙ is_true in
    let none = completes_none-append (scan_after after_cut near) first second none_first none_second in
    subst (λ (l : List Node). AddsNoStable l (first ++ second)) (sym parts) (adds_none_after before near (first ++ second) enough none)

pub returns-then-has_no_cut-2 : goal.returns-then-has_no_cut-2
returns-then-has_no_cut-2 c = λ _.
    adds_none_without c.args.nodes.now (c.args.first.now ++ c.args.second.now)
    (NoCut-append c.args.first.now c.args.second.now (c.has_no_cut.ensures c.if-has_no_cut.true) (c.has_no_cut-then-has_no_cut.ensures c.if-has_no_cut-2.true))
