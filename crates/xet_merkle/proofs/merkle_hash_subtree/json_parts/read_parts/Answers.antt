use Rattle.std.proofs.Common.{inl, inr, refl, sym, ◌∙◌}
use Rattle.xet_merkle.specs.JsonParts.{no_nodes, no_levels}
use Rattle.xet_roots.proofs.Results.{passed_on}
use Rattle.xet_merkle.proofs.Json.Reading.{breaks_rule_1, breaks_rule_2}
use Rattle.xet_merkle.proofs.merkle_hash_subtree.json_parts.read_parts.Goals as goal

pub returns-then-not-is_object-clause-errors : goal.returns-then-not-is_object-clause-errors
returns-then-not-is_object-clause-errors g c = inr (1, refl, breaks_rule_1 _ (sym c.is_object.ensures ∙ c.if-not-is_object.true))

pub returns-in_default-clause-errors : goal.returns-in_default-clause-errors
returns-in_default-clause-errors g c = inr (2, refl, breaks_rule_2 _ (sym c.is_object.ensures ∙ c.if-not-is_object.false) c.in_default.ensures.none)

pub returns-in_err-nodes-clause-errors : goal.returns-in_err-nodes-clause-errors
returns-in_err-nodes-clause-errors g c = passed_on _ c.from_residual-in_err-nodes.result c.in_err-nodes.field-0.0 c.from_residual-in_err-nodes.ensures.1
    (elim c.in_err-nodes.ensures.refused [
      | inl memory ↦ inl memory
      | inr refused ↦ inr (3, refused.0, no_nodes c.in-Some.ensures.some refused.1)
    ])

pub returns-in_err-counts-clause-errors : goal.returns-in_err-counts-clause-errors
returns-in_err-counts-clause-errors g c = passed_on _ c.from_residual-in_err-counts.result c.in_err-counts.field-0.0 c.from_residual-in_err-counts.ensures.1
    (elim c.in_err-counts.ensures.refused [
      | inl memory ↦ inl memory
      | inr refused ↦ inr (4, refused.0, no_levels _ c.in-Some.ensures.some c.in_ok-nodes.ensures.read refused.1)
    ])
