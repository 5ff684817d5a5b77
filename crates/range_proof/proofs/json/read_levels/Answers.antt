use Rattle.std.proofs.Common.{inl, inr}
use Rattle.xet_roots.proofs.Results.{passed_on}
use Rattle.level_nodes.proofs.Json.{read_next, read_each}
use Rattle.range_proof.specs.ProofJson.{ReadsSides}
use Rattle.range_proof.proofs.json.read_levels.Goals as goal

pub returns-in_err-read_sides-clause-refused : goal.returns-in_err-read_sides-clause-refused
returns-in_err-read_sides-clause-refused g c = passed_on _ c.from_residual-in_err-read_sides.result c.in_err-read_sides.field-0.0 c.from_residual-in_err-read_sides.ensures.1
    (elim c.in_err-read_sides.ensures.refused [
      | inl memory ↦ inl memory
      | inr refused ↦ inr (
        refused.0,
        λ all h.
            let found = read_each ReadsSides c.args.values.now c.levels.value-index c.value-item.result all c.levels-test.true c.value-item.is h in
            refused.1 found.0 found.1,
      )
    ])

pub levels-preserved : goal.levels-preserved
levels-preserved g c =
    read_next ReadsSides c.args.values.now c.levels.value-index c.value-item.result _ _ c.in_ok-read_sides.field-0 c.levels-test.true c.value-item.is
    c.levels.invariant c.in_ok-read_sides.ensures.read c.in_ok-push.ensures.items
