-- The flat lists of a range proof: the sizes of their nodes, and that they break no rule.
use Rattle.std.proofs.Common.{◌≡◌, ℕ, ◌+◌, List, [], ◌∷◌, ◌++◌, subst, ap, ◌∙◌, arith, append-nil}
use Rattle.std.specs.Prelude.{sum_by}
use Rattle.std.proofs.lemmas.List.Sums.{sum_by-cons, sum_by-append}
use Rattle.xet_roots.specs.Groups.{Node}
use Rattle.xet_roots.specs.Roots.{total_size}
use Rattle.level_nodes.specs.Level.{Level}
use Rattle.level_nodes.specs.FlatLevels.{flat_nodes, IsFlat}
use Rattle.level_nodes.proofs.FlatOf.{outside, one_flat, IsFlat-length}
use Rattle.range_proof.specs.RangeProof.{Proof, IsWellFormed, file_size_of}
use Rattle.range_proof.specs.ProofJson.{BreaksValueRule}
use Rattle.range_proof.specs.FlatProof.{BreaksFlatRule}
use Rattle.range_proof.specs.FlatProof.BreaksFlatRule.{no_chunk, of_proof}
use Rattle.range_proof.proofs.JsonOf.{value_kept}

size_all : (levels : List Level) (chunks : List Node) →
    total_size (flat_nodes levels chunks) ≡ total_size chunks + sum_by (λ sides. total_size sides.left + total_size sides.right) levels
size_all [] chunks = ap total_size (append-nil chunks) ∙ omega arith
size_all (level ∷ levels) chunks =
    let sum = sum_by-cons (λ (s : Level). total_size s.left + total_size s.right) level levels in
    let rest = size_all levels chunks in
    let all = ap total_size (outside level levels chunks) in
    let left = sum_by-append (λ (n : Node). n.1) level.left (flat_nodes levels chunks ++ level.right) in
    let right = sum_by-append (λ (n : Node). n.1) (flat_nodes levels chunks) level.right in
    omega arith

-- the sizes of all nodes add up to that of the file
pub IsFlat-size : (counts : List (ℕ × ℕ)) (nodes : List Node) (proof : Proof) → IsFlat counts nodes proof.levels proof.chunks →
    total_size nodes ≡ file_size_of proof
IsFlat-size counts nodes proof flat = ap total_size flat.nodes_are ∙ size_all proof.levels proof.chunks

pub one_flat_proof : (counts : List (ℕ × ℕ)) (nodes : List Node) (a b : Proof) → IsFlat counts nodes a.levels a.chunks →
    IsFlat counts nodes b.levels b.chunks → a ≡ b
one_flat_proof counts nodes a b h k =
    let same = one_flat counts nodes a.levels b.levels a.chunks b.chunks h k in
    λ i. record { chunks = same.1 i; levels = same.0 i }

-- counts and nodes of a well-formed proof break no rule
pub flat_kept : (counts : List (ℕ × ℕ)) (nodes : List Node) (proof : Proof) (rule : ℕ) →
    IsFlat counts nodes proof.levels proof.chunks → IsWellFormed proof → BreaksFlatRule counts nodes rule → ⊥
flat_kept counts nodes proof rule flat well_formed (no_chunk none) =
    let some = well_formed.some in
    let len = IsFlat-length counts nodes proof.levels proof.chunks flat in
    omega arith
flat_kept counts nodes proof _ flat well_formed (of_proof {rule} {proof = other} other_flat broken) =
    value_kept proof rule well_formed (subst (λ (p : Proof). BreaksValueRule p rule) (one_flat_proof counts nodes other proof other_flat flat) broken)
