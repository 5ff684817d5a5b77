use Rattle.std.proofs.Common.{inl, inr, ◌<◌, ◌≤◌, ◌^◌, refl, arith}
use Rattle.std.proofs.lemmas.Bool.{false≢true, cases_lt}
use Rattle.std.proofs.lemmas.Bool.Decides.{nat_tests}
use Rattle.range_proof.specs.RangeProof.{Proof, file_size_of}
use Rattle.range_proof.specs.ProofJson.BreaksValueRule.{no_chunk, many_levels, many_beside, sizes_pass}
use Rattle.range_proof.proofs.proof_parts.broken_rule.Goals as goal

pub returns-then-is_empty-clause-broken : goal.returns-then-is_empty-clause-broken
returns-then-is_empty-clause-broken g c = no_chunk (grind (arith, nat_tests, c.if-is_empty.ensures))

pub returns-then-levels-gt-MAX_LEVELS-clause-broken : goal.returns-then-levels-gt-MAX_LEVELS-clause-broken
returns-then-levels-gt-MAX_LEVELS-clause-broken g c = many_levels (grind (arith, nat_tests, c.if-is_empty.ensures)) (omega arith)

pub returns-then-not-have_few_beside-clause-broken : goal.returns-then-not-have_few_beside-clause-broken
returns-then-not-have_few_beside-clause-broken g c =
    many_beside (grind (arith, nat_tests, c.if-is_empty.ensures)) (omega arith) (λ h. false≢true (c.if-not-have_few_beside.ensures.1 h))

past : (proof : Proof) → (file_size_of proof < 2 ^ 64 → ⊥) → 2 ^ 64 ≤ file_size_of proof
past proof none = elim (cases_lt (file_size_of proof) (2 ^ 64)) [ inl less ↦ absurd (none less) | inr more ↦ more ]

pub returns-then-not-sizes_fit-clause-broken : goal.returns-then-not-sizes_fit-clause-broken
returns-then-not-sizes_fit-clause-broken g c =
    sizes_pass (grind (arith, nat_tests, c.if-is_empty.ensures)) (omega arith) (c.if-not-have_few_beside.ensures.0 refl)
    (past (record { chunks = c.args.chunks.now; levels = c.args.levels.now }) (λ h. false≢true (c.if-not-sizes_fit.ensures.1 h)))

pub returns-clause-kept : goal.returns-clause-kept
returns-clause-kept g c = record {
  some = grind (arith, nat_tests, c.if-is_empty.ensures);
  few_levels = omega arith;
  few_left = (c.if-not-have_few_beside.ensures.0 refl).left;
  few_right = (c.if-not-have_few_beside.ensures.0 refl).right;
  fits = c.if-not-sizes_fit.ensures.0 refl;
}
