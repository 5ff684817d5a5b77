use Rattle.upload_session.proofs.JoiningRuns.{Searched}
use Rattle.upload_session.proofs.runs.Runs.first_shared.Given as goal

abbrev pub invariant-runs : goal.invariant-runs
invariant-runs g l =
    Searched l.self l.other l.first-iterator
    × (goal.iterator-runs g).can_next l.first-iterator × (goal.iterator-runs g).is_finite l.first-iterator
