use Rattle.std.proofs.Common.{◌≡◌, inr, sym, ap, ◌∙◌}
use Rattle.yurewha_c.specs.Statuses.{core_status}
use Rattle.yurewha_c.proofs.HandleLists.{held_once}
use Rattle.yurewha_c.proofs.HandleMerging.{can_merge, status_of_allowed, status_of_refused}
use Rattle.yurewha_c.proofs.subtree_merging.yurewha_subtree_merge.Goals as goal

pub merge_held-requires : goal.merge_held-requires
merge_held-requires c =
    let passed = c.in-Some.ensures.passed in
    let can = can_merge c.args.ranges.now passed.0 passed.1 c.in-Some.passed passed.2 c.refusal.result c.refusal.ensures c.in_default-refusal.is in
    (passed.0, c.passed_of.ensures.kept ∙ passed.1, can.0, can.1)

pub returns-in-Some-refusal-clause-arguments : goal.returns-in-Some-refusal-clause-arguments
returns-in-Some-refusal-clause-arguments c =
    let passed = c.in-Some.ensures.passed in
    (status_of_refused c.args.ranges.now passed.0 passed.1 c.in-Some.passed passed.2 c.refusal.result c.refusal.ensures
    c.in-Some-refusal.error c.status_of.result c.in-Some-refusal.is c.status_of.ensures).on_marks

pub returns-in-Some-refusal-clause-sizes : goal.returns-in-Some-refusal-clause-sizes
returns-in-Some-refusal-clause-sizes c =
    let passed = c.in-Some.ensures.passed in
    (status_of_refused c.args.ranges.now passed.0 passed.1 c.in-Some.passed passed.2 c.refusal.result c.refusal.ensures
    c.in-Some-refusal.error c.status_of.result c.in-Some-refusal.is c.status_of.ensures).on_sizes

pub returns-in-Ok-clause-merged : goal.returns-in-Ok-clause-merged
returns-in-Ok-clause-merged c = λ done kept h.
    let whole = c.in-Ok.ensures.merged in
    let same : kept ≡ whole.0 = held_once kept whole.0 (sym h ∙ sym c.passed_of.ensures.kept ∙ whole.1) in
    rw (c.hold.ensures.done done) (rw same whole.2)

pub returns-in-Ok-clause-arguments : goal.returns-in-Ok-clause-arguments
returns-in-Ok-clause-arguments c =
    let passed = c.in-Some.ensures.passed in
    (status_of_allowed c.args.ranges.now passed.0 passed.1 c.in-Some.passed passed.2 c.refusal.result c.refusal.ensures
    c.hold.result c.in_default-refusal.is c.hold.ensures.statuses).on_marks

pub returns-in-Ok-clause-sizes : goal.returns-in-Ok-clause-sizes
returns-in-Ok-clause-sizes c =
    let passed = c.in-Some.ensures.passed in
    (status_of_allowed c.args.ranges.now passed.0 passed.1 c.in-Some.passed passed.2 c.refusal.result c.refusal.ensures
    c.hold.result c.in_default-refusal.is c.hold.ensures.statuses).on_sizes

pub returns-in-Err-clause-arguments : goal.returns-in-Err-clause-arguments
returns-in-Err-clause-arguments c =
    let passed = c.in-Some.ensures.passed in
    (status_of_allowed c.args.ranges.now passed.0 passed.1 c.in-Some.passed passed.2 c.refusal.result c.refusal.ensures
    c.status_of-in-Err.result c.in_default-refusal.is (inr (c.status_of-in-Err.ensures ∙ ap core_status c.in-Err.ensures.errors))).on_marks

pub returns-in-Err-clause-sizes : goal.returns-in-Err-clause-sizes
returns-in-Err-clause-sizes c =
    let passed = c.in-Some.ensures.passed in
    (status_of_allowed c.args.ranges.now passed.0 passed.1 c.in-Some.passed passed.2 c.refusal.result c.refusal.ensures
    c.status_of-in-Err.result c.in_default-refusal.is (inr (c.status_of-in-Err.ensures ∙ ap core_status c.in-Err.ensures.errors))).on_sizes
