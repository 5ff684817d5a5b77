-- What the proof of a range says of its list.
use Rattle.std.proofs.Common.{◌≡◌, ℕ, ◌+◌, ◌-◌, ◌<◌, ◌≤◌, ◌^◌, List, [], ◌∷◌, ◌++◌, length, take, drop, sym, ap, subst, ◌∙◌, arith, append_assoc, take-append-drop, take-take, take-add, take_all}
use Rattle.std.proofs.lemmas.List.{length-map, drop-drop}
use Rattle.std.proofs.lemmas.List.Elements.{All-from_recursion}
use Rattle.xet_hash.specs.Hash.{default_hash}
use Rattle.xet_roots.specs.Groups.{Node}
use Rattle.xet_roots.specs.Roots.{total_size, IsRoot, IsFileHash}
use Rattle.xet_roots.proofs.Roots.Making.{total_size-append}
use Rattle.commitment.specs.Commitment.{chunk_node, chunk_nodes}
use Rattle.commitment.proofs.Commitment.Levels.{root_of_file_hash}
use Rattle.level_nodes.specs.Level.{Level}
use Rattle.range_proof.specs.RangeProof.{Proof, IsProofOf, IsTop, Rises, Shows, ShowsRoot, IsWellFormed, begin_of, file_size_of}
use Rattle.range_proof.specs.Soundness.{AreChunksAt}
use Rattle.range_proof.proofs.Parts.{map_part, sum_by-add}
use Rattle.range_proof.proofs.Completeness.Climb.{rises, sizes_beside, few_levels, few_beside}
use Rattle.range_proof.proofs.Completeness.OneProof.{range_some}

-- a list is what comes before a range, the range, and what comes after it
three_parts : (nodes : List Node) (first end : ℕ) → first < end → take first nodes ++ take (end - first) (drop first nodes) ++ drop end nodes ≡ nodes
three_parts nodes first end some =
    let at : first + (end - first) ≡ end = omega arith in
    append_assoc (take first nodes) (take (end - first) (drop first nodes)) (drop end nodes)
    ∙ ap (λ n. take first nodes ++ (take (end - first) (drop first nodes) ++ drop n nodes)) (sym at)
    ∙ ap (λ l. take first nodes ++ (take (end - first) (drop first nodes) ++ l)) (sym (drop-drop (end - first) first nodes))
    ∙ ap (λ l. take first nodes ++ l) (take-append-drop (end - first) (drop first nodes))
    ∙ take-append-drop first nodes

module _ (nodes : List Node) (first end : ℕ) (proof : Proof) (is_proof : IsProofOf nodes first end proof) where
  some : 0 < length (take (end - first) (drop first nodes))
  some = range_some nodes first end is_proof.some is_proof.within

  top : (root : List ℕ) → IsRoot nodes root → IsTop proof root
  top root is_root =
      let range = take (end - first) (drop first nodes) in
      let whole = three_parts nodes first end is_proof.some in
      let up = rises root is_proof.sides (subst (λ (l : List Node). IsRoot l root) (sym whole) is_root) some in
      (up.0, subst (λ (l : List Node). Rises proof.levels l ((root, up.0) ∷ [])) (sym is_proof.chunks) up.1)

  pub shows_root : (root : List ℕ) → IsRoot nodes root → ¬ (root ≡ default_hash) → ShowsRoot proof root
  shows_root root is_root not_default = record { top = top root is_root; some = not_default }

  pub shows_file_hash : (hash salt : List ℕ) → IsFileHash nodes salt hash → ¬ (hash ≡ default_hash) → Shows proof hash salt
  shows_file_hash hash salt is_hash not_default =
      let within = is_proof.within in
      let less = is_proof.some in
      let (root, is_root, salted) = root_of_file_hash nodes salt hash (omega arith) is_hash in
      record { root = root; top = top root is_root; salted = salted; some = not_default }

  pub begins : (k : ℕ) → first + k ≤ end → begin_of proof k ≡ total_size (take (first + k) nodes)
  begins k within =
      let rest = drop first nodes in
      let beside = sizes_beside is_proof.sides some in
      let left = beside.0 in
      let chunks : take k proof.chunks ≡ take k rest = ap (take k) is_proof.chunks ∙ take-take k (end - first) rest (omega arith) in
      let size = ap total_size chunks in
      let front = ap total_size (take-add first k nodes) in
      omega (arith, total_size-append (take first nodes) (take k rest))

  pub file_size : file_size_of proof ≡ total_size nodes
  file_size =
      let range = take (end - first) (drop first nodes) in
      let beside = sizes_beside is_proof.sides some in
      let left = beside.0 in
      let right = beside.1 in
      let whole = ap total_size (three_parts nodes first end is_proof.some) in
      let chunks = ap total_size is_proof.chunks in
      omega (arith, total_size-append (take first nodes ++ range) (drop end nodes), total_size-append (take first nodes) range, sum_by-add (λ (s : Level). total_size s.left) (λ (s : Level). total_size s.right) proof.levels)

  pub well_formed : length nodes < 2 ^ 64 → total_size nodes < 2 ^ 64 → IsWellFormed proof
  well_formed short small =
      let beside = few_beside is_proof.sides some in
      let len = ap length is_proof.chunks in
      let size = file_size in
      let whole = ap length (three_parts nodes first end is_proof.some) in
      record {
        some = let range_is = some in omega arith;
        few_levels = few_levels is_proof.sides 64 (omega arith);
        few_left = All-from_recursion (λ sides. length sides.left ≤ 8) proof.levels beside.0;
        few_right = All-from_recursion (λ sides. length sides.right ≤ 8) proof.levels beside.1;
        fits = omega arith;
      }

-- the chunks of a range are those that its proof accepts
pub takes_chunks : (file : List (List ℕ)) (first end : ℕ) (proof : Proof) → IsProofOf (chunk_nodes file) first end proof →
    AreChunksAt proof 0 (take (end - first) (drop first file))
takes_chunks file first end proof is_proof =
    let part = take (end - first) (drop first file) in
    let same : chunk_nodes part ≡ proof.chunks = map_part chunk_node (end - first) first file ∙ sym is_proof.chunks in
    let len = ap length same in
    same ∙ sym (take_all (length part) proof.chunks (omega (arith, length-map part chunk_node)))
