use Rattle.std.proofs.Common.{List, subst}
use Rattle.upload_session.specs.Session.{PlacedRun, AreBothAt}
use Rattle.upload_session.proofs.JoiningRuns.{Searched, searched-next}
use Rattle.upload_session.proofs.runs.Runs.first_shared.Goals as goal

pub runs-preserved : goal.runs-preserved
runs-preserved g c =
    let run : PlacedRun g.row.C.Denot = (c.in-Some.first.now, c.in-Some.run'.now) in
    let before = subst (λ (rest : List (PlacedRun g.row.C.Denot)). Searched c.args.self.now c.args.other.now rest) c.in-Some.ensures.steps c.runs.invariant.0 in
    (searched-next c.args.self.now c.args.other.now c.next.new.self run before (rw c.in_default.is at c.first_taken.ensures.none), tt, tt)
