use Rattle.std.proofs.Common.{inl, inr, refl, sym, subst, ◌∙◌}
use Rattle.std.proofs.lemmas.Bool.{false≢true}
use Rattle.serde_json.specs.View.{view}
use Rattle.xet_roots.proofs.Results.{passed_on}
use Rattle.range_proof.specs.ProofJson.{ReadsProof}
use Rattle.range_proof.specs.ProofJson.BreaksPartRule.{no_levels, no_nodes}
use Rattle.range_proof.specs.ProofJson.BreaksRule.{of_parts, of_value}
use Rattle.range_proof.proofs.JsonOf.{breaks_rule_1, breaks_rule_2, no_chunks_read, no_levels_read, parts_of, Reads-parts}
use Rattle.range_proof.proofs.proof.RangeProof.from_json.Goals as goal

pub returns-then-not-is_object-clause-errors : goal.returns-then-not-is_object-clause-errors
returns-then-not-is_object-clause-errors g c = inr (1, refl, of_parts (breaks_rule_1 _ (sym c.is_object.ensures ∙ c.if-not-is_object.true)))

pub returns-in_default-clause-errors : goal.returns-in_default-clause-errors
returns-in_default-clause-errors g c =
    inr (2, refl, of_parts (breaks_rule_2 _ (sym c.is_object.ensures ∙ c.if-not-is_object.false) c.in_default.ensures.none))

pub returns-then-not-are_levels-clause-errors : goal.returns-then-not-are_levels-clause-errors
returns-then-not-are_levels-clause-errors g c =
    inr (3, refl, of_parts (no_levels c.in-Some.ensures.some (λ h. false≢true (c.if-not-are_levels.ensures.1 h))))

pub returns-in_err-chunks-clause-errors : goal.returns-in_err-chunks-clause-errors
returns-in_err-chunks-clause-errors g c = passed_on _ c.from_residual-in_err-chunks.result c.in_err-chunks.field-0.0 c.from_residual-in_err-chunks.ensures.1
    (elim c.in_err-chunks.ensures.refused [
      | inl memory ↦ inl memory
      | inr refused ↦ inr (
        4,
        refused.0,
        of_parts (no_nodes c.in-Some.ensures.some (c.if-not-are_levels.ensures.0 refl)
            (no_chunks_read _ _ _ c.in-Some.ensures.some refused.1)),
      )
    ])

pub returns-in_err-levels-clause-errors : goal.returns-in_err-levels-clause-errors
returns-in_err-levels-clause-errors g c = passed_on _ c.from_residual-in_err-levels.result c.in_err-levels.field-0.0 c.from_residual-in_err-levels.ensures.1
    (elim c.in_err-levels.ensures.refused [
      | inl memory ↦ inl memory
      | inr refused ↦ inr (
        4,
        refused.0,
        of_parts (no_nodes c.in-Some.ensures.some (c.if-not-are_levels.ensures.0 refl)
            (no_levels_read _ _ _ c.in-Some.ensures.some refused.1)),
      )
    ])

pub returns-in-Err-clause-errors : goal.returns-in-Err-clause-errors
returns-in-Err-clause-errors g c =
    inr (
      c.in-Err.rule,
      refl,
      of_value (parts_of _ _ _ _ _ c.in-Some.ensures.some c.in_ok-chunks.ensures.read c.in_ok-levels.ensures.read) c.in-Err.ensures.broken,
    )

pub returns-in-Ok-clause-reads : goal.returns-in-Ok-clause-reads
returns-in-Ok-clause-reads g c =
    let json = view c.args.value.now in
    let parts = parts_of _ _ _ _ _ c.in-Some.ensures.some c.in_ok-chunks.ensures.read c.in_ok-levels.ensures.read in
    Reads-parts c.hex_text_tells_hashes_apart.ensures json c.in-Ok.proof (subst (ReadsProof json) (sym c.in-Ok.ensures.same) parts) c.in-Ok.ensures.well_formed
