use Rattle.std.proofs.Common.{inl, inr}
use Rattle.xet_roots.proofs.Results.{passed_on}
use Rattle.range_proof.proofs.JsonOf.{no_left, no_right}
use Rattle.range_proof.proofs.json.read_sides.Goals as goal

pub returns-in_err-left-clause-refused : goal.returns-in_err-left-clause-refused
returns-in_err-left-clause-refused g c = passed_on _ c.from_residual-in_err-left.result c.in_err-left.field-0.0 c.from_residual-in_err-left.ensures.1
    (elim c.in_err-left.ensures.refused [
      | inl memory ↦ inl memory
      | inr refused ↦ inr (refused.0, no_left _ _ _ c.in-Some.ensures.some refused.1)
    ])

pub returns-in_err-right-clause-refused : goal.returns-in_err-right-clause-refused
returns-in_err-right-clause-refused g c = passed_on _ c.from_residual-in_err-right.result c.in_err-right.field-0.0 c.from_residual-in_err-right.ensures.1
    (elim c.in_err-right.ensures.refused [
      | inl memory ↦ inl memory
      | inr refused ↦ inr (refused.0, no_right _ _ _ c.in-Some.ensures.some refused.1)
    ])
