use Rattle.std.proofs.Common.{◌<◌, List, length, map, refl, sym, subst, arith}
use Rattle.std.specs.Prelude.{All}
use Rattle.std.proofs.lemmas.Bool.{false≢true}
use Rattle.std.proofs.lemmas.List.{take_all, length-map, get_or-map}
use Rattle.std.proofs.lemmas.List.Elements.{All-more, All-map}
use Rattle.serde_json.specs.Data.{Data}
use Rattle.serde_json.specs.View.{view}
use Rattle.serde_json.specs.declared.value.Value.{Value}
use Rattle.range_proof.specs.ProofJson.{HasSides}
use Rattle.range_proof.proofs.json.are_levels.Goals as goal

-- a value has both sides
abbrev IsLevel : Data → Type 0
IsLevel value = (left : List Data) × (right : List Data) × HasSides value left right

pub levels-preserved : goal.levels-preserved
levels-preserved c =
    All-more (λ (value : Value). IsLevel (view value)) c.args.values.now c.levels.value-index c.value-item.result c.levels-test.true c.levels.invariant
    (subst (λ (value : Value). IsLevel (view value)) c.value-item.is (_, _, c.in-Some.ensures.some))

pub returns-in_default : goal.returns-in_default
returns-in_default c = (
  λ h. absurd (false≢true h),
  λ all.
      let values = c.args.values.now in
      let i = c.levels.value-index in
      let value = c.value-item.result in
      let within : i < length (map view values) = let len = length-map values view in let less = c.levels-test.true in omega arith in
      let here = subst IsLevel (get_or-map view values i value (view value) c.levels-test.true) (all i (view value) within) in
      let found = subst (λ (v : Value). IsLevel (view v)) (sym c.value-item.is) here in
      absurd (c.in_default.ensures.none found.0 found.1 found.2),
)

pub returns : goal.returns
returns c =
    let all = take_all c.levels.value-index c.args.values.now c.levels-test.false in (
      λ _. All-map IsLevel view c.args.values.now (subst (λ (values : List Value). All (λ value. IsLevel (view value)) values) all c.levels.invariant),
      λ _. refl,
    )
