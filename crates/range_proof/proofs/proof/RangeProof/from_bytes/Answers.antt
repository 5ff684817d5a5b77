use Rattle.std.proofs.Common.{◌≡◌, ◌⊎◌, ℕ, inl, inr, refl, sym, ap, subst, ◌∙◌, arith}
use Rattle.std.specs.List.{flat_map}
use Rattle.std.proofs.lemmas.List.{nil_from_length}
use Rattle.xet_roots.specs.declared.error.CoreError.{CoreError}
use Rattle.xet_roots.specs.declared.error.CoreError.TheVariants.{OutOfMemory, InvalidLists}
use Rattle.level_nodes.specs.FlatLevels.{IsFlat}
use Rattle.range_proof.specs.RangeProof.{Proof, IsWellFormed}
use Rattle.range_proof.specs.FlatProof.{BreaksFlatRule}
use Rattle.range_proof.specs.ProofBytes.{AreNodes, BreakRule, SayProof, count_bytes, node_bytes}
use Rattle.range_proof.specs.ProofBytes.BreakRule.{no_byte, of_lists}
use Rattle.range_proof.proofs.BytesOf.{both_of, breaks_rule_3, breaks_rule_4, error_of, lists_read, lists_say}
use Rattle.range_proof.proofs.proof.RangeProof.from_bytes.Goals as goal

pub returns-in_default-clause-errors : goal.returns-in_default-clause-errors
returns-in_default-clause-errors g c = inr (1, refl, no_byte (nil_from_length c.args.bytes.now (omega (arith, c.in_default.len_below))))

pub returns-then-rest-len-clause-errors : goal.returns-then-rest-len-clause-errors
returns-then-rest-len-clause-errors g c =
    inr (3, refl, breaks_rule_3 c.args.bytes.now c.from-len.result c.in-len1-up.len_at_least c.from-len.ensures c.if-rest-len.true)

pub returns-then-nodes-ne0-clause-errors : goal.returns-then-nodes-ne0-clause-errors
returns-then-nodes-ne0-clause-errors g c =
    inr (
      4,
      refl,
      breaks_rule_4 c.args.bytes.now c.from-len.result c.split_at.result.0.now c.split_at.result.1.now c.in-len1-up.len_at_least
          c.from-len.ensures c.split_at.ensures.by_index.0 c.split_at.ensures.front_len c.if-nodes-ne0.true,
    )

pub returns-clause-says : goal.returns-clause-says
returns-clause-says g c =
    let bytes = c.args.bytes.now in
    let counts = c.deref.result.now in
    let nodes = c.deref-2.result.now in
    let fit = subst AreNodes (sym c.deref-2.ensures.value) c.in_ok-nodes.ensures.fit in
    let read = lists_read bytes c.from-len.result c.split_at.result.0.now c.split_at.result.1.now counts nodes c.in-len1-up.len_at_least
    c.from-len.ensures c.split_at.ensures.by_index.0 c.split_at.ensures.front_len (ap count_bytes c.deref.ensures.value ∙ c.in_ok-counts.ensures)
    (ap (flat_map node_bytes) c.deref-2.ensures.value ∙ c.in_ok-nodes.ensures.bytes) in
    both_of (λ (p : Proof). IsFlat counts nodes p.levels p.chunks) IsWellFormed (SayProof bytes) c.from_flat.result
    (λ p flat well_formed. lists_say bytes counts nodes p read fit flat well_formed)
    c.from_flat.ensures.flat c.from_flat.ensures.well_formed

pub returns-clause-errors : goal.returns-clause-errors
returns-clause-errors g c =
    let bytes = c.args.bytes.now in
    let counts = c.deref.result.now in
    let nodes = c.deref-2.result.now in
    let fit = subst AreNodes (sym c.deref-2.ensures.value) c.in_ok-nodes.ensures.fit in
    let read = lists_read bytes c.from-len.result c.split_at.result.0.now c.split_at.result.1.now counts nodes c.in-len1-up.len_at_least
    c.from-len.ensures c.split_at.ensures.by_index.0 c.split_at.ensures.front_len (ap count_bytes c.deref.ensures.value ∙ c.in_ok-counts.ensures)
    (ap (flat_map node_bytes) c.deref-2.ensures.value ∙ c.in_ok-nodes.ensures.bytes) in
    error_of (λ (e : CoreError). (e ≡ OutOfMemory) ⊎ ((rule : ℕ) × (e ≡ InvalidLists rule) × BreaksFlatRule counts nodes rule))
    (λ (e : CoreError). (e ≡ OutOfMemory) ⊎ ((rule : ℕ) × (e ≡ InvalidLists rule) × BreakRule bytes rule)) c.from_flat.result
    (λ e broken. elim broken [
      | inl memory ↦ inl memory
      | inr rule ↦ inr (rule.0, rule.1, of_lists read fit rule.2)
    ])
    c.from_flat.ensures.errors
