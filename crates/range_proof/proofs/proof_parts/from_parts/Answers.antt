use Rattle.std.proofs.Common.{subst}
use Rattle.range_proof.specs.RangeProof.{Proof, IsWellFormed}
use Rattle.range_proof.specs.ProofJson.{BreaksValueRule}
use Rattle.range_proof.proofs.proof_parts.from_parts.Goals as goal

pub returns-in-Some-clause-broken : goal.returns-in-Some-clause-broken
returns-in-Some-clause-broken g c =
    subst (λ (p : Proof). BreaksValueRule p c.in-Some.rule)
    (λ i. record { chunks = c.deref.ensures.value i; levels = c.deref-2.ensures.value i }) c.in-Some.ensures.broken

pub new-requires : goal.new-requires
new-requires g c =
    subst IsWellFormed (λ i. record { chunks = c.deref.ensures.value i; levels = c.deref-2.ensures.value i }) c.in-None.ensures.kept
