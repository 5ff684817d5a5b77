use Rattle.std.proofs.Common.{arith, rules, List, [], subst, sym, ap, ◌∙◌}
use Rattle.upload_session.specs.Session.{PlacedRun}
use Rattle.upload_session.proofs.Gaps.{Counted, counted-none, counted-next}
use Rattle.upload_session.proofs.runs.Runs.num_positions.Goals as goal

pub runs-init : goal.runs-init
runs-init g c = (
  subst (λ (rest : List (PlacedRun g.row.C.Denot)). Counted c.args.self.now rest 0)
      (sym (c.into_iter-first-iterator.ensures.into_iter_gives.0 ∙ c.self.view_is)) (counted-none c.args.self.now c.requires),
  search rules,
  search rules,
)

pub overflow_sub-count : goal.overflow_sub-count
overflow_sub-count g c =
    let run : PlacedRun g.row.C.Denot = (c.in-Some.first.now, c.in-Some.run'.now) in
    (counted-next c.args.self.now c.next.new.self run c.runs.count
    (subst (λ (rest : List (PlacedRun g.row.C.Denot)). Counted c.args.self.now rest c.runs.count) c.in-Some.ensures.steps c.runs.invariant.0)).0

pub overflow_add-count : goal.overflow_add-count
overflow_add-count g c =
    let run : PlacedRun g.row.C.Denot = (c.in-Some.first.now, c.in-Some.run'.now) in
    let next = counted-next c.args.self.now c.next.new.self run c.runs.count
    (subst (λ (rest : List (PlacedRun g.row.C.Denot)). Counted c.args.self.now rest c.runs.count) c.in-Some.ensures.steps c.runs.invariant.0) in
    search (rules, next.1)

pub runs-preserved : goal.runs-preserved
runs-preserved g c =
    let run : PlacedRun g.row.C.Denot = (c.in-Some.first.now, c.in-Some.run'.now) in
    let next = counted-next c.args.self.now c.next.new.self run c.runs.count
    (subst (λ (rest : List (PlacedRun g.row.C.Denot)). Counted c.args.self.now rest c.runs.count) c.in-Some.ensures.steps c.runs.invariant.0) in
    (next.2, search rules, search rules)

pub returns : goal.returns
returns g c =
    let counted = subst (λ (rest : List (PlacedRun g.row.C.Denot)). Counted c.args.self.now rest c.runs.count) c.in-None.ensures.steps.0 c.runs.invariant.0 in
    omega (arith, counted.0)
