use Rattle.std.proofs.Common.{ℕ, List, inl, inr, ◌<◌, ◌≤◌, refl, subst}
use Rattle.std.proofs.lemmas.Bool.{false≢true, cases_lt}
use Rattle.xet_roots.specs.Groups.{Node}
use Rattle.range_proof.specs.ProofJson.{BreaksValueRule}
use Rattle.range_proof.specs.FlatProof.BreaksFlatRule.{no_chunk, of_proof}
use Rattle.range_proof.proofs.proof.RangeProof.from_flat.Goals as goal

not_less : (m n : ℕ) → (m < n → ⊥) → n ≤ m
not_less m n none = elim (cases_lt m n) [ inl less ↦ absurd (none less) | inr more ↦ more ]

pub returns-then-not-leave_a_chunk-clause-errors : goal.returns-then-not-leave_a_chunk-clause-errors
returns-then-not-leave_a_chunk-clause-errors g c =
    inr (5, refl, no_chunk (not_less _ _ (λ h. false≢true (c.if-not-leave_a_chunk.ensures.1 h))))

pub returns-in-Err-clause-errors : goal.returns-in-Err-clause-errors
returns-in-Err-clause-errors g c =
    let levels = c.in_ok-parts.parts.levels.items in
    let broken = subst (λ (chunks : List Node). BreaksValueRule (record { chunks = chunks; levels = levels }) c.in-Err.rule) (c.in_ok-chunks.ensures.items_if_clones_equal (λ x y e i. (e.0 i, e.1 i))) c.in-Err.ensures.broken in
    inr (c.in-Err.rule, refl, of_proof c.in_ok-parts.ensures broken)
