use Rattle.std.proofs.Common.{◌++◌, map, length}
use Rattle.serde_json.specs.Written.{items_text}
use Rattle.serde_json.specs.View.{items_of}
use Rattle.session_json.specs.SessionJson.{run_json}
use Rattle.session_json.proofs.Runs.{rest}
use Rattle.session_json.proofs.Text.{Lacks}
use Rattle.session_json.proofs.writing.push_runs.Given as goal

abbrev pub invariant-runs : goal.invariant-runs
invariant-runs l =
    Lacks run_json (l.initial.text.items ++ items_text l.initial.later (items_of (map run_json l.session.runs))) l.text.items l.later
    (rest l.position l.session.runs)

abbrev pub decreases-runs : goal.decreases-runs
decreases-runs l = length (rest l.position l.session.runs)
