-- Range proofs as flat lists in C.
use Rattle.std.specs.Prelude.{◌≡◌, ◌⊎◌, ℕ, ◌+◌, ◌<◌, ◌≤◌, All, List, drop, length, take}
use Rattle.range_proof.specs.RangeProof.{Proof, IsWellFormed}
use Rattle.range_proof.specs.FlatLevels.{flat_nodes, IsFlat}
use Rattle.range_proof.specs.FlatProof.{BreaksFlatRule}
use Rattle.yurewha_c.specs.Chunks.{nodes_of}
use Rattle.yurewha_c.specs.FlatLists.{counts_of}
use Rattle.yurewha_c.specs.Statuses.{done, room}
use Rattle.yurewha_c.specs.declared.chunks.Chunk.{Chunk}
use Rattle.yurewha_c.specs.declared.subtree_flat.Level.{Level}

-- the flat lists of a proof are written to the beginnings of two rooms if both fit, and their lengths are always written
pub record WritesProof (proof : Proof) (levels levels_new : List Level) (nodes nodes_new : List Chunk) (level_count node_count status : ℕ) : Type 0 where
  pub written : level_count ≤ length levels → node_count ≤ length nodes →
      (status ≡ done) × IsFlat (counts_of (take level_count levels_new)) (nodes_of (take node_count nodes_new)) proof.levels proof.chunks
  pub rest : status ≡ done → (drop level_count levels_new ≡ drop level_count levels) × (drop node_count nodes_new ≡ drop node_count nodes)
  pub unwritten : (length levels < level_count) ⊎ (length nodes < node_count) →
      (status ≡ room) × (levels_new ≡ levels) × (nodes_new ≡ nodes)
  pub levels_counted : level_count ≡ length proof.levels
  pub nodes_counted : node_count ≡ length (flat_nodes proof.levels proof.chunks)

-- flat lists are those of a proof
pub record AreOfProof (levels : List Level) (nodes : List Chunk) (proof : Proof) : Type 0 where
  pub flat : IsFlat (counts_of levels) (nodes_of nodes) proof.levels proof.chunks
  pub well_formed : IsWellFormed proof

-- a status is that of a rule from 5 to 8 that flat lists break, and they break none of these with a lower number
abbrev pub IsFlatRule : List Level → List Chunk → ℕ → Type 0
IsFlatRule levels nodes status = (rule : ℕ) × (status ≡ 48 + rule) × BreaksFlatRule (counts_of levels) (nodes_of nodes) rule

-- each side of each level has at most 8 nodes
pub record HaveFewBeside (levels : List Level) : Type 0 where
  pub left : All (λ level. level.left ≤ 8) levels
  pub right : All (λ level. level.right ≤ 8) levels
