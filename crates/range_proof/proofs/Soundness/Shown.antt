-- What a proof that shows a root or a file hash says of a file with that root or file hash.
use Rattle.std.proofs.Common.{◌≡◌, ℕ, ◌<◌, ◌^◌, ◌⊎◌, List, [], ◌∷◌, length, map, refl, sym, ap, subst, ◌∙◌, inl, inr, arith}
use Rattle.std.proofs.lemmas.List.{length-map}
use Rattle.std.proofs.lemmas.List.Elements.{recursion_from_All}
use Rattle.xet_hash.specs.Hash.{default_hash, bytes_of}
use Rattle.xet_roots.specs.Groups.{Node}
use Rattle.xet_roots.specs.Roots.{parent, IsRoot, IsFileHash}
use Rattle.xet_roots.specs.Roots.IsRootBy.{no_node, of_parents}
use Rattle.commitment.specs.Commitment.{Message, chunk_node, chunk_nodes, HashedForRoot, HashedForFile, Collision}
use Rattle.commitment.specs.Commitment.HashedForFile.{below, root as of_root}
use Rattle.commitment.proofs.Commitment.Texts.{AllHashes}
use Rattle.commitment.proofs.Commitment.Messages.{same_message}
use Rattle.commitment.proofs.Commitment.Levels.{AllHashes-parents, root_of_file_hash, IsHash-root, bytes_of-injective, Collision-more}
use Rattle.level_nodes.specs.Level.{Level}
use Rattle.range_proof.specs.RangeProof.{Proof, Rises, IsTop, ShowsRoot, Shows, HasHashes, file_size_of}
use Rattle.range_proof.specs.Soundness.{AreChunksAt, CheckedForRoot, CheckedForFile, HasChunksAt}
use Rattle.range_proof.specs.Soundness.CheckedForRoot.{chunk as of_chunk, group as of_group}
use Rattle.range_proof.specs.Soundness.CheckedForFile.{below as checked_below, top as of_top}
use Rattle.range_proof.proofs.Soundness.Checked.{sound_for_top}

root_of_none : {root : List ℕ} → IsRoot [] root → root ≡ default_hash
root_of_none no_node = refl
root_of_none (of_parents two cutting root) = absurd (omega arith)

-- a file whose root isn't the default hash has a chunk
some_chunks : (file : List (List ℕ)) (root : List ℕ) → IsRoot (chunk_nodes file) root → ¬ (root ≡ default_hash) → 0 < length file
some_chunks [] root is_root some = absurd (some (root_of_none is_root))
some_chunks (bytes ∷ file) root is_root some = omega arith

-- and one whose file hash isn't
some_chunks_of_file : (file : List (List ℕ)) (salt hash : List ℕ) → IsFileHash (chunk_nodes file) salt hash → ¬ (hash ≡ default_hash) → 0 < length file
some_chunks_of_file [] salt hash is_hash some = absurd (some is_hash)
some_chunks_of_file (bytes ∷ file) salt hash is_hash some = omega arith

-- the top's hash is a hash
AllHashes-top : (levels : List Level) (nodes top : List Node) → AllHashes nodes → Rises levels nodes top → AllHashes top
AllHashes-top [] nodes top h rises = subst AllHashes rises h
AllHashes-top (sides ∷ levels) nodes top h rises = AllHashes-top levels (map parent rises.0) top (AllHashes-parents rises.0) rises.2

pub sound_for_root : (proof : Proof) (root : List ℕ) (k : ℕ) (chunks file : List (List ℕ)) →
    HasHashes proof → file_size_of proof < 2 ^ 64 → ShowsRoot proof root → 0 < length chunks → AreChunksAt proof k chunks →
    IsRoot (chunk_nodes file) root → HasChunksAt file proof k chunks ⊎ Collision (CheckedForRoot proof chunks) (HashedForRoot file)
sound_for_root proof root k chunks file h fits shows some are is_root =
    sound_for_top file (CheckedForRoot proof chunks) proof k chunks root (some_chunks file root is_root shows.some) h fits shows.top some are
    (λ _ c. of_chunk c) (λ _ up. of_group up) is_root

pub sound_for_file : (proof : Proof) (hash salt : List ℕ) (k : ℕ) (chunks file : List (List ℕ)) →
    HasHashes proof → file_size_of proof < 2 ^ 64 → Shows proof hash salt → 0 < length chunks → AreChunksAt proof k chunks →
    IsFileHash (chunk_nodes file) salt hash → HasChunksAt file proof k chunks ⊎ Collision (CheckedForFile proof chunks salt) (HashedForFile file salt)
sound_for_file proof hash salt k chunks file h fits shows some are is_hash =
    let file_some = some_chunks_of_file file salt hash is_hash shows.some in
    let (root, is_root, salted) = root_of_file_hash (chunk_nodes file) salt hash (omega (arith, length-map file chunk_node)) is_hash in
    elim (same_message (CheckedForFile proof chunks salt) (HashedForFile file salt) (salt, bytes_of shows.root) (salt, bytes_of root) (of_top shows.root shows.top) (of_root is_root) (sym shows.salted ∙ salted)) [
      | inl same ↦
          let top_hash = AllHashes-top proof.levels proof.chunks _ (recursion_from_All _ _ h.chunks) shows.top.1 in
          let roots : shows.root ≡ root = bytes_of-injective shows.root root top_hash.0 (IsHash-root file root file_some is_root) (ap (λ (message : Message). message.1) same) in
          elim (sound_for_top file (CheckedForRoot proof chunks) proof k chunks root file_some h fits (subst (IsTop proof) roots shows.top) some are (λ _ c. of_chunk c) (λ _ up. of_group up) is_root) [
            | inl has ↦ inl has
            | inr collision ↦ inr (Collision-more (λ _. checked_below) (λ _. below) collision)
          ]
      | inr collision ↦ inr collision
    ]
