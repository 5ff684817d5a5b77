use Rattle.upload_session.proofs.JoiningRuns.{Joining}
use Rattle.upload_session.proofs.runs.Runs.joined.Given as goal

abbrev pub invariant-runs : goal.invariant-runs
invariant-runs g l =
    Joining g.C.ChunkRange l.self l.other l.all l.first-iterator
    × (goal.iterator-runs g).can_next l.first-iterator × (goal.iterator-runs g).is_finite l.first-iterator
