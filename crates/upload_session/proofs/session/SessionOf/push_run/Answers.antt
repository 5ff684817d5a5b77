use Rattle.std.proofs.Common.{◌≡◌, ◌+◌, List, [], ◌∷◌, ◌++◌, arith, sym, subst}
use Rattle.std.proofs.lemmas.Grind.{common_steps}
use Rattle.std.proofs.lemmas.List.Sums.{sum_by_push}
use Rattle.upload_session.specs.Session.{PlacedRun, size_of_runs, AreApart, CanFollow}
use Rattle.upload_session.specs.Steps.OpenRuns.{AreOpen}
use Rattle.upload_session.proofs.Neighbours.{run_to}
use Rattle.upload_session.proofs.OpenRuns.{open-push}
use Rattle.upload_session.proofs.Positions.{apart-push}
use Rattle.upload_session.proofs.session.SessionOf.push_run.Goals as goal

pub invariant_of-self-2 : goal.invariant_of-self-2
invariant_of-self-2 g c =
    let kind = g.C.ChunkRange in
    let old = c.self.inside.runs in
    let run : PlacedRun g.row.C.Denot = (c.args.first, run_to c.args.end c.args.range) in
    let follows : CanFollow kind old run =
    subst (λ session. CanFollow kind session.runs run) (sym c.self.view_is) (c.can_push.ensures.follows.0 c.if-not-can_push.false) in
    let sum : c.in_ok-size.size ≡ c.self.inside.size + kind.total c.args.range = grind (arith, common_steps) in
    let size : c.in_ok-size.size ≡ size_of_runs kind (old ++ run ∷ []) =
    omega (arith, c.self.invariant.2, sum, sum_by_push (λ (run : PlacedRun g.row.C.Denot). kind.total run.1.range) old run) in
    subst (λ (runs : List (PlacedRun g.row.C.Denot)). AreOpen kind runs × AreApart runs × (c.in_ok-size.size ≡ size_of_runs kind runs))
    (sym c.in_ok-push.ensures.pushed) (
      open-push kind old run c.self.invariant.0 (follows.1, follows.2),
      apart-push old run c.self.invariant.1 follows.0 follows.3,
      size,
    )
