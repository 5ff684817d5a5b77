use Rattle.std.proofs.Common.{inr, ap}
use Rattle.serde_json.specs.View.{view}
use Rattle.xet_merkle.specs.JsonRules as subtree
use Rattle.level_nodes.proofs.Json.{read_next}
use Rattle.session_json.specs.Reading.{HasRunMembers}
use Rattle.session_json.specs.Steps.SavedRuns.{ReadsSaved}
use Rattle.session_json.specs.declared.fault.SessionTextFault.TheVariants.{Subtree}
use Rattle.session_json.proofs.Broken.{broken_run, found_has, is_run, rule_of}
use Rattle.session_json.proofs.JsonValues.{run_at}
use Rattle.session_json.proofs.reading.read_runs.Goals as goal

pub unwrap-first-requires : goal.unwrap-first-requires
unwrap-first-requires c =
    is_run _ _ c.read_run.ensures.none
    (run_at c.args.values.now c.runs.value-index c.value-item.result c.runs-test.true c.value-item.is c.requires)

pub returns-in-Err-InvalidJson-clause-refused : goal.returns-in-Err-InvalidJson-clause-refused
returns-in-Err-InvalidJson-clause-refused c = inr (
  c.in-Err-InvalidJson.rule,
  ap Subtree c.in-Err-InvalidJson.rule-is,
  broken_run c.args.values.now c.runs.value-index c.value-item.result c.runs.runs.items _ _ _ _ c.runs-test.true c.value-item.is c.runs.invariant
      (found_has (λ run. HasRunMembers (view c.value-item.result) run.first run.end (view run.chunks.now)) _ _ c.unwrap-first.ensures c.read_run.ensures.some)
      (rule_of _ _ (subtree.BreaksRule (view c.unwrap-first.result.chunks.now)) c.in-Err-InvalidJson.field-0-is c.in-Err-InvalidJson.ensures.errors),
)

pub runs-preserved : goal.runs-preserved
runs-preserved c =
    read_next ReadsSaved c.args.values.now c.runs.value-index c.value-item.result _ _ _ c.runs-test.true c.value-item.is c.runs.invariant
    (record {
      chunks = view c.unwrap-first.result.chunks.now;
      members = found_has (λ run. HasRunMembers (view c.value-item.result) run.first run.end (view run.chunks.now)) _ _ c.unwrap-first.ensures c.read_run.ensures.some;
      reads = c.in-Ok.ensures.reads;
    })
    c.in_ok-push-in-Ok.ensures.items
