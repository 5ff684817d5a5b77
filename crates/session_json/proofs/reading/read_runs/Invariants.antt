use Rattle.std.proofs.Common.{map, take}
use Rattle.std.specs.List.{AllZip}
use Rattle.serde_json.specs.View.{view}
use Rattle.session_json.specs.Steps.SavedRuns.{ReadsSaved}
use Rattle.session_json.proofs.reading.read_runs.Given as goal

abbrev pub invariant-runs : goal.invariant-runs
invariant-runs l = AllZip ReadsSaved (map view (take l.value-index l.values)) l.runs.items
