-- At the chunks: those that were checked are the file's, at the place that the proof names.
use Rattle.std.proofs.Common.{◌≡◌, ℕ, ◌<◌, ◌≤◌, ◌^◌, ◌⊎◌, Contains, List, [], ◌∷◌, ◌++◌, length, map, flat_map, take, drop, refl, sym, ap, subst, ◌∙◌, inl, inr, arith, append_assoc, length-append, length-take, length-drop, take-append-drop, take_all}
use Rattle.std.specs.List.{AllByRecursion}
use Rattle.std.proofs.lemmas.List.{length-map, map-append, take-map}
use Rattle.std.proofs.lemmas.List.Elements.{recursion_from_All}
use Rattle.std.proofs.lemmas.List.Sums.{sum_by-cons}
use Rattle.xet_roots.specs.Groups.{Node}
use Rattle.xet_roots.specs.Roots.{parent, total_size, IsRoot}
use Rattle.xet_roots.proofs.Roots.Making.{total_size-append}
use Rattle.commitment.specs.Commitment.{Message, chunk_node, chunk_nodes, IsLevel, HashedForRoot, Collision}
use Rattle.commitment.specs.Commitment.IsLevel.{lowest, above}
use Rattle.commitment.proofs.Commitment.Texts.{hashes}
use Rattle.commitment.proofs.Commitment.Messages.{each_front, each_back, each_contained, chunk_message, group_message, same_chunks, chunks_against_groups}
use Rattle.commitment.proofs.Commitment.Levels.{each_chunk, each_group, top_of_chunks}
use Rattle.level_nodes.specs.Level.{Level}
use Rattle.range_proof.specs.RangeProof.{Proof, IsTop, HasHashes, file_size_of}
use Rattle.range_proof.specs.Soundness.{AreChunksAt, IsGroupAbove, HasChunksAt}
use Rattle.range_proof.proofs.Parts.{InThree, in_three, each_middle, map_part, sum_by-add}
use Rattle.range_proof.proofs.Soundness.Descent.{lefts, rights, descend}

-- ---- Parts of lists

cut_part : {X : Type 0} (n k : ℕ) (xs : List X) → xs ≡ take k xs ++ (take n (drop k xs) ++ drop n (drop k xs))
cut_part n k xs = sym (take-append-drop k xs) ∙ ap (λ l. take k xs ++ l) (sym (take-append-drop n (drop k xs)))

each_part : {X : Type 0} (P : X → Type 0) (n k : ℕ) (xs : List X) → AllByRecursion P xs → AllByRecursion P (take n (drop k xs))
each_part P n k xs h =
    each_front P (take n (drop k xs)) (drop n (drop k xs)) (each_back P (take k xs) _ (subst (AllByRecursion P) (cut_part n k xs) h))

whole_part : {X : Type 0} (n k : ℕ) (xs : List X) → k ≡ 0 → length xs ≤ n → take n (drop k xs) ≡ xs
whole_part n k xs none all = ap (λ j. take n (drop j xs)) none ∙ take_all n xs all

length_of_bytes : (chunks : List (List ℕ)) → length (flat_map (λ bytes. bytes) chunks) ≡ total_size (chunk_nodes chunks)
length_of_bytes [] = refl
length_of_bytes (bytes ∷ chunks) =
    omega (arith, length-append bytes (flat_map (λ b. b) chunks), sum_by-cons (λ (node : Node). node.1) (chunk_node bytes) (chunk_nodes chunks), length_of_bytes chunks)

-- ---- The chunks that were checked

-- nodes that are a part of some others have the hashes of the same part of what has the others' hashes
same_part : {X : Type 0} (f : X → Node) (own : List X) (range nodes part : List Node) (n k : ℕ) → map f own ≡ range → hashes range ≡ hashes nodes →
    part ≡ take n (drop k nodes) → hashes part ≡ hashes (map f (take n (drop k own)))
same_part f own range nodes part n k is_range same is_part =
    ap hashes is_part ∙ map_part (λ (node : Node). node.0) n k nodes ∙ ap (λ l. take n (drop k l)) (sym same ∙ ap hashes (sym is_range))
    ∙ sym (map_part (λ (node : Node). node.0) n k (map f own)) ∙ ap hashes (sym (map_part f n k own))

-- if there is one node, a part of it is the whole
only_chunk : (own chunks : List (List ℕ)) (range nodes : List Node) (k : ℕ) → length nodes ≡ 1 → 0 < length chunks →
    map chunk_node own ≡ range → hashes range ≡ hashes nodes → chunk_nodes chunks ≡ take (length chunks) (drop k nodes) →
    chunks ≡ take (length chunks) (drop k own) → range ≡ nodes
only_chunk own chunks range nodes k one some is_range same are are_own =
    let n = length chunks in
    let lengths : length chunks ≡ length (take n (drop k nodes)) = sym (length-map chunks chunk_node) ∙ ap length are in
    let len = length-take n (drop k nodes) in
    let len' = length-drop k nodes in
    let none : k ≡ 0 = omega arith in
    let range_len = ap length is_range in
    let hash_len = ap length same in
    let own_one : length own ≡ 1 =
    omega (arith, length-map own chunk_node, length-map range (λ (node : Node). node.0), length-map nodes (λ (node : Node). node.0)) in
    sym is_range ∙ ap chunk_nodes (sym (whole_part n k own none (omega arith)) ∙ sym are_own) ∙ are ∙ whole_part n k nodes none (omega arith)

module _ (file : List (List ℕ)) (these : Message → Type 0) (proof : Proof) (k : ℕ) (chunks : List (List ℕ)) where
  -- the place of checked chunks, and the size of the file
  placed : (before range after : List Node) → chunk_nodes file ≡ before ++ (range ++ after) → (own : InThree chunk_node file before range after) →
      range ≡ proof.chunks → total_size before ≡ lefts proof.levels → total_size after ≡ rights proof.levels →
      chunks ≡ take (length chunks) (drop k own.middle) → HasChunksAt file proof k chunks
  placed before range after parts own range_is left right are =
      let n = length chunks in
      let rest = drop n (drop k own.middle) in
      record {
        before = own.first ++ take k own.middle;
        after = rest ++ own.last;
        parts =
            own.parts ∙ ap (λ l. own.first ++ (l ++ own.last)) (cut_part n k own.middle ∙ ap (λ l. take k own.middle ++ (l ++ rest)) (sym are))
            ∙ simp append_assoc;
        place =
            let front = ap total_size own.is_front in
            let part : chunk_nodes (take k own.middle) ≡ take k proof.chunks = sym (take-map chunk_node k own.middle) ∙ ap (take k) (own.is_range ∙ range_is) in
            let part_size = ap total_size part in
            let sum = ap total_size (map-append chunk_node own.first (take k own.middle)) in
            omega (arith, length_of_bytes (own.first ++ take k own.middle), total_size-append (chunk_nodes own.first) (chunk_nodes (take k own.middle)));
        size =
            let whole = ap total_size parts in
            let range_size = ap total_size range_is in
            omega (arith, length_of_bytes file, total_size-append before (range ++ after), total_size-append range after, sum_by-add (λ (s : Level). total_size s.left) (λ (s : Level). total_size s.right) proof.levels);
      }

  at_chunks : AllByRecursion (λ bytes. these (chunk_message bytes)) chunks → 0 < length chunks → AreChunksAt proof k chunks →
      (level : List Node) → IsLevel (chunk_nodes file) level → (before range after : List Node) → level ≡ before ++ (range ++ after) →
      hashes range ≡ hashes proof.chunks → total_size before ≡ lefts proof.levels → total_size after ≡ rights proof.levels →
      (length proof.chunks ≡ 1) ⊎ (range ≡ proof.chunks) → HasChunksAt file proof k chunks ⊎ Collision these (HashedForRoot file)
  at_chunks each some are _ lowest before range after parts e left right same_nodes =
      let n = length chunks in
      let own = in_three chunk_node file before range after parts in
      let P : List ℕ → Type 0 = λ bytes. HashedForRoot file (chunk_message bytes) in
      let hashed = each_part P n k own.middle (each_middle P own (each_chunk file)) in
      elim (same_chunks these (HashedForRoot file) chunks (take n (drop k own.middle)) each hashed (same_part chunk_node own.middle range proof.chunks _ n k own.is_range e are)) [
        | inl same ↦ elim same_nodes [
          | inl one ↦ inl (placed before range after parts own (only_chunk own.middle chunks range proof.chunks k one some own.is_range e are same) left right same)
          | inr range_is ↦ inl (placed before range after parts own range_is left right same)
        ]
        | inr collision ↦ inr collision
      ]
  at_chunks each some are _ (above {groups = groups} is_level two cutting) before range after parts e left right same_nodes =
      let n = length chunks in
      let own = in_three parent groups before range after parts in
      let part = take n (drop k own.middle) in
      let P : List Node → Type 0 = λ group. HashedForRoot file (group_message group) in
      let hashed = each_part P n k own.middle (each_middle P own (each_group file is_level two cutting)) in
      let same_hashes = same_part parent own.middle range proof.chunks (chunk_nodes chunks) n k own.is_range e are in
      let lengths = ap length same_hashes in
      let part_some : 0 < length part =
      omega (arith, length-map chunks chunk_node, length-map part parent, length-map (chunk_nodes chunks) (λ (node : Node). node.0), length-map (map parent part) (λ (node : Node). node.0)) in
      inr (chunks_against_groups these (HashedForRoot file) chunks part part_some each hashed same_hashes)

  -- a proof with this top, and chunks of it, against a file with this root
  pub sound_for_top : (root : List ℕ) → 0 < length file → HasHashes proof → file_size_of proof < 2 ^ 64 → IsTop proof root → 0 < length chunks → AreChunksAt proof k chunks →
      ((bytes : List ℕ) → Contains chunks bytes → these (chunk_message bytes)) →
      ((group : List Node) → IsGroupAbove proof.levels proof.chunks group → these (group_message group)) →
      IsRoot (chunk_nodes file) root → HasChunksAt file proof k chunks ⊎ Collision these (HashedForRoot file)
  sound_for_top root file_some h fits top some are each_chunk each_group is_root =
      let file_top = top_of_chunks file root file_some is_root in
      let lengths : length chunks ≡ length (take (length chunks) (drop k proof.chunks)) = sym (length-map chunks chunk_node) ∙ ap length are in
      let proof_some : 0 < length proof.chunks = omega (arith, length-take (length chunks) (drop k proof.chunks), length-drop k proof.chunks) in
      elim (descend file these root file_top.0 top.0 file_top.1 proof.levels proof.chunks (recursion_from_All _ _ h.chunks) (recursion_from_All _ _ h.left) (recursion_from_All _ _ h.right) fits proof_some each_group top.1) [
        | inl found ↦
            at_chunks (each_contained (λ bytes. these (chunk_message bytes)) chunks each_chunk) some are
            found.level found.is_level found.before found.range found.after found.parts found.same_hashes found.left found.right found.same_nodes
        | inr collision ↦ inr collision
      ]
