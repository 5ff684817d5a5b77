use Rattle.upload_session.proofs.Gaps.{Counted}
use Rattle.upload_session.proofs.runs.Runs.num_positions.Given as goal

abbrev pub invariant-runs : goal.invariant-runs
invariant-runs g l =
    Counted l.self l.first-iterator l.count
    × (goal.iterator-runs g).can_next l.first-iterator × (goal.iterator-runs g).is_finite l.first-iterator
