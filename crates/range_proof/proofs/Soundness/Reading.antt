-- Bytes that are read are those of each file with a hash that the proof shows.
use Rattle.std.proofs.Common.{ℕ, ◌<◌, List, length, ap, inl, inr, arith}
use Rattle.std.proofs.lemmas.List.{length-map}
use Rattle.commitment.specs.Commitment.{chunk_node}
use Rattle.range_proof.specs.RangeProof.{Proof, HasHashes, IsWellFormed}
use Rattle.range_proof.specs.Reading.{AreChunksOf, IsRead}
use Rattle.range_proof.specs.Checking.{IsSoundRead, IsSoundReadForRoot}
use Rattle.range_proof.proofs.ReadingOf.{AreChunksAt-all, IsPartOfFile-from}
use Rattle.range_proof.proofs.Soundness.Shown.{sound_for_file, sound_for_root}

some_chunks : (proof : Proof) (all : List ℕ) (chunks : List (List ℕ)) → IsWellFormed proof → AreChunksOf proof.chunks all chunks → 0 < length chunks
some_chunks proof all chunks formed h =
    let some = formed.some in
    let len = ap length h.nodes_are in
    omega (arith, length-map chunks chunk_node)

module _ (proof : Proof) (from to : ℕ) (all bytes : List ℕ) (hashes : HasHashes proof) (formed : IsWellFormed proof) (read : IsRead proof from to all bytes) where
  some : 0 < length read.chunks
  some = some_chunks proof all read.chunks formed read.are_chunks

  pub sound_read : IsSoundRead proof from to all bytes
  sound_read = λ hash salt file shows is_hash. (
    read.chunks,
    read.are_chunks,
    elim (sound_for_file proof hash salt 0 read.chunks file hashes formed.fits shows some (AreChunksAt-all proof all read.chunks read.are_chunks) is_hash) [
      | inl found ↦ inl (IsPartOfFile-from proof from to all bytes file read found)
      | inr collision ↦ inr collision
    ],
  )

  pub sound_read_for_root : IsSoundReadForRoot proof from to all bytes
  sound_read_for_root = λ root file shows is_root. (
    read.chunks,
    read.are_chunks,
    elim (sound_for_root proof root 0 read.chunks file hashes formed.fits shows some (AreChunksAt-all proof all read.chunks read.are_chunks) is_root) [
      | inl found ↦ inl (IsPartOfFile-from proof from to all bytes file read found)
      | inr collision ↦ inr collision
    ],
  )
