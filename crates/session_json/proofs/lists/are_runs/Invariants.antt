use Rattle.std.proofs.Common.{take}
use Rattle.std.specs.Prelude.{All}
use Rattle.serde_json.specs.View.{view}
use Rattle.session_json.specs.Reading.{IsRunValue}
use Rattle.session_json.proofs.lists.are_runs.Given as goal

abbrev pub invariant-runs : goal.invariant-runs
invariant-runs l = All (λ value. IsRunValue (view value)) (take l.value-index l.values)
