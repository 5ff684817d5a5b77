-- The laws that `==` of proofs keeps: it returns true exactly for equal proofs.
use Rattle.std.specs.Prelude.{◌≡◌}
use Rattle.std.specs.Bool.{Decides}
use Rattle.std.specs.Cmp.{IsEquivalence, IsPartialEquivalence, partial_equiv_from_equiv, decided}
use Rattle.std.specs.Cmp.Lexicographic.{pointwise, pointwise_decides}
use Rattle.std.proofs.Common.{ap}
use Rattle.level_nodes.specs.Level.{same_node, same_level}
use Rattle.level_nodes.specs.Steps.LevelEquality.{both_decide, same_node-decides, same_level-decides}
use Rattle.range_proof.specs.RangeProof.{Proof, same_proof}

pub same_proof-decides : (a b : Proof) → Decides (same_proof a b) (a ≡ b)
same_proof-decides a b =
    both_decide (pointwise same_node a.chunks b.chunks) (pointwise same_level a.levels b.levels) (a.chunks ≡ b.chunks) (a.levels ≡ b.levels) (a ≡ b)
    (pointwise_decides same_node-decides a.chunks b.chunks) (pointwise_decides same_level-decides a.levels b.levels)
    (λ p q i. record { chunks = p i; levels = q i }) (ap (λ (proof : Proof). proof.chunks)) (ap (λ (proof : Proof). proof.levels))

pub same_proof-equiv : IsEquivalence same_proof
same_proof-equiv = decided same_proof same_proof-decides

pub same_proof-per : IsPartialEquivalence same_proof
same_proof-per = partial_equiv_from_equiv same_proof-equiv
