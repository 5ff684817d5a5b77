use Rattle.std.proofs.Common.{List, subst, refl}
use Rattle.std.specs.Prelude.{All}
use Rattle.std.proofs.lemmas.Bool.{false≢true}
use Rattle.std.proofs.lemmas.List.{take_all}
use Rattle.std.proofs.lemmas.List.Elements.{All-map, All-more}
use Rattle.serde_json.specs.View.{view}
use Rattle.serde_json.specs.declared.value.Value.{Value}
use Rattle.session_json.specs.Reading.{IsRunValue}
use Rattle.session_json.proofs.JsonValues.{run_at}
use Rattle.session_json.proofs.lists.are_runs.Goals as goal

pub runs-preserved : goal.runs-preserved
runs-preserved c =
    All-more (λ (value : Value). IsRunValue (view value)) c.args.values.now c.runs.value-index c.value-item.result c.runs-test.true c.runs.invariant
    (subst (λ (value : Value). IsRunValue (view value)) c.value-item.is (_, _, _, c.in-Some.ensures.some))

pub returns-in_default : goal.returns-in_default
returns-in_default c = (
  λ t. absurd (false≢true t),
  λ all.
      let run = run_at c.args.values.now c.runs.value-index c.value-item.result c.runs-test.true c.value-item.is all in
      absurd (c.in_default.ensures.none run.0 run.1 run.2 run.3),
)

pub returns : goal.returns
returns c = (
  λ _. All-map IsRunValue view c.args.values.now
      (subst (λ (values : List Value). All (λ value. IsRunValue (view value)) values) (take_all c.runs.value-index c.args.values.now c.runs-test.false) c.runs.invariant),
  λ _. refl,
)
