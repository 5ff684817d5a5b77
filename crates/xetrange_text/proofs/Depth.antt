-- How deep the JSON values of subtrees and of range proofs are nested.
use Rattle.std.proofs.Common.{ℕ, ◌≤◌, List, [], ◌∷◌, map, arith}
use Rattle.serde_json.specs.Data.{Data, depth, items_depth}
use Rattle.serde_json.specs.View.{items_of}
use Rattle.xet_merkle.specs.FlatLevels.{count_of, flat_nodes}
use Rattle.xet_merkle.specs.Subtree.{Subtree}
use Rattle.xet_merkle.specs.Levels.{Level}
use Rattle.xet_merkle.specs.NodeJson.{node_json}
use Rattle.xet_merkle.specs.SubtreeJson.{counts_json, subtree_json}
use Rattle.range_proof.specs.RangeProof.{Proof}
use Rattle.range_proof.specs.ProofJson.{proof_json, sides_json}

nests : {X : Type 0} (json : X → Data) (n : ℕ) → ((x : X) → depth (json x) ≤ n) → (xs : List X) → items_depth (items_of (map json xs)) ≤ n
nests json n one [] = omega arith
nests json n one (x ∷ xs) = omega (arith, one x, nests json n one xs)

pub subtree_depth : (range : Subtree) → depth (subtree_json range) ≤ 3
subtree_depth range =
    let levels = nests counts_json 1 (λ count. omega arith) (map count_of range.levels) in
    let nodes = nests node_json 1 (λ node. omega arith) (flat_nodes range.levels []) in
    omega (arith, levels, nodes)

sides_depth : (sides : Level) → depth (sides_json sides) ≤ 3
sides_depth sides =
    let left = nests node_json 1 (λ node. omega arith) sides.left in
    let right = nests node_json 1 (λ node. omega arith) sides.right in
    omega (arith, left, right)

pub proof_depth : (proof : Proof) → depth (proof_json proof) ≤ 5
proof_depth proof =
    let chunks = nests node_json 1 (λ node. omega arith) proof.chunks in
    let levels = nests sides_json 3 sides_depth proof.levels in
    omega (arith, chunks, levels)
