-- The binary form of a range proof: a byte with the number of levels; for each level, from the chunks up, two bytes with the
-- numbers of its left and right nodes; and for each node, in the order of the file, 40 bytes. And the lowest rule that bytes
-- break: 1, 3 or 4 of the form, or 5 to 8 of the flat lists that they hold. No rule 2 of JSON has its like here.
use Rattle.std.specs.Prelude.{◌≡◌, ℕ, ◌-◌, ◌*◌, ◌%◌, ◌^◌, ◌<◌, ◌≤◌, All, List, [], ◌∷◌, ◌++◌, length, map}
use Rattle.std.specs.Int.{w64, to_le_bytes}
use Rattle.std.specs.List.{flat_map}
use Rattle.xet_hash.specs.Hash.{IsHash, bytes_of}
use Rattle.xet_roots.specs.Groups.{Node}
use Rattle.level_nodes.specs.FlatLevels.{count_of, flat_nodes}
use Rattle.range_proof.specs.RangeProof.{Proof, HasHashes, IsWellFormed}
use Rattle.range_proof.specs.FlatProof.{BreaksFlatRule}

-- a node: the 32 bytes of its hash, and the 8 of its size, the least significant first
abbrev pub node_bytes : Node → List ℕ
node_bytes node = bytes_of node.0 ++ to_le_bytes w64 node.1

-- two bytes for each level
abbrev pub count_bytes : List (ℕ × ℕ) → List ℕ
count_bytes counts = flat_map (λ count. count.0 ∷ count.1 ∷ []) counts

-- the bytes of flat lists
abbrev pub list_bytes : List (ℕ × ℕ) → List Node → List ℕ
list_bytes counts nodes = length counts ∷ count_bytes counts ++ flat_map node_bytes nodes

-- the bytes of a proof
abbrev pub proof_bytes : Proof → List ℕ
proof_bytes proof = list_bytes (map count_of proof.levels) (flat_nodes proof.levels proof.chunks)

-- bytes say a proof: they are its bytes, and it keeps the rules of every proof
pub record SayProof (bytes : List ℕ) (proof : Proof) : Type 0 where
  pub bytes_are : bytes ≡ proof_bytes proof
  pub well_formed : IsWellFormed proof
  pub hashes : HasHashes proof

-- the hash of each node is a hash, and its size fits 64 bits
abbrev pub AreNodes : List Node → Type 0
AreNodes nodes = All (λ node. IsHash node.0 × (node.1 < 2 ^ 64)) nodes

-- the lowest rule that bytes break: there is a first byte; two bytes follow for each level; whole nodes follow, of 40 bytes
-- each; the lists keep the rules 5 to 8
pub data BreakRule (bytes : List ℕ) : ℕ → Type 0 where
  no_byte : bytes ≡ [] → BreakRule bytes 1
  few_counts : {levels : ℕ} {rest : List ℕ} → bytes ≡ levels ∷ rest → length rest < 2 * levels → BreakRule bytes 3
  no_nodes : {levels : ℕ} {rest : List ℕ} → bytes ≡ levels ∷ rest → 2 * levels ≤ length rest →
      ¬ ((length rest - 2 * levels) % 40 ≡ 0) → BreakRule bytes 4
  of_lists : {rule : ℕ} {counts : List (ℕ × ℕ)} {nodes : List Node} → bytes ≡ list_bytes counts nodes → AreNodes nodes →
      BreaksFlatRule counts nodes rule → BreakRule bytes rule
