-- The lowest of the rules 5 to 8 that the flat lists of a range proof break: the numbers of nodes on both sides of each
-- level, and all nodes in the order of the file, with the chunks between the sides.
use Rattle.std.specs.Prelude.{ℕ, ◌≤◌, List, length}
use Rattle.xet_roots.specs.Groups.{Node}
use Rattle.level_nodes.specs.FlatLevels.{count_sum, IsFlat}
use Rattle.range_proof.specs.RangeProof.{Proof}
use Rattle.range_proof.specs.ProofJson.{BreaksValueRule}

-- rule 5 is that the counts leave a node for the chunks; the others are those of a proof
pub data BreaksFlatRule (counts : List (ℕ × ℕ)) (nodes : List Node) : ℕ → Type 0 where
  no_chunk : length nodes ≤ count_sum counts → BreaksFlatRule counts nodes 5
  of_proof : {rule : ℕ} {proof : Proof} → IsFlat counts nodes proof.levels proof.chunks → BreaksValueRule proof rule → BreaksFlatRule counts nodes rule
