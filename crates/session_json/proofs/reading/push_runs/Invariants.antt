use Rattle.std.proofs.Common.{◌≡◌, ◌++◌, length, reverse}
use Rattle.session_json.specs.Reading.{size_of}
use Rattle.session_json.specs.Steps.SavedRuns.{all_placed}
use Rattle.session_json.proofs.reading.push_runs.Given as goal

abbrev pub invariant-runs : goal.invariant-runs
invariant-runs l = record {
  pushed : l.session.runs ++ all_placed (reverse l.runs.items) ≡ all_placed l.fn.runs.items;
  size : l.session.size ≡ size_of l.session.runs;
  kept : l.session.kept ≡ l.fn.session.kept;
}

abbrev pub decreases-runs : goal.decreases-runs
decreases-runs l = length l.runs.items
