-- What `verify` writes for its input: a line with the JSON text of a range proof, and the data of the proof's chunks.
use Rattle.std.specs.Prelude.{◌≡◌, ◌⊎◌, ℕ, ◌<◌, List, length, replicate}
use Rattle.line_io.specs.Lines.{byte_limit}
use Rattle.line_io.specs.LineAndData.{first_line, after_line}
use Rattle.commitment.specs.Commitment.{HashedForFile, Collision}
use Rattle.range_proof.specs.RangeProof.{Proof, Shows}
use Rattle.range_proof.specs.Reading.{AreChunksOf, IsPartOfFile, IsRead}
use Rattle.range_proof.specs.Soundness.{CheckedForFile}
use Rattle.xetrange_text.specs.declared.fault.RangeFault.{RangeFault}
use Rattle.xetrange_text.specs.declared.fault.RangeFault.TheVariants.{BadLine, Sizes, Memory, Read, Write, BadRange, NoChunks, Mismatch}
use Rattle.xetrange_text.specs.Proofs.{SaysProof, SaysNoProof}

-- the bytes of a file from one place to another. The proof shows the file hash under the salt of 32 zero bytes, and all
-- that follows its line is the data of its chunks.
pub record IsVerifiedOf (file_hash : List ℕ) (from to : ℕ) (text output : List ℕ) : Type 0 where
  pub proof : Proof
  pub says : SaysProof (first_line text) proof
  pub shows : Shows proof file_hash (replicate 32 0)
  pub is_read : IsRead proof from to (after_line text) output

-- some bytes are those of a file from one place to another, unless two messages collide: one that was hashed to verify the
-- input, which is the line of a proof and the data of its chunks, and one that is hashed for the file
pub record IsPartUnlessCollision (file : List (List ℕ)) (from to : ℕ) (text output : List ℕ) : Type 0 where
  pub proof : Proof
  pub says : SaysProof (first_line text) proof
  pub chunks : List (List ℕ)
  pub are_chunks : AreChunksOf proof.chunks (after_line text) chunks
  pub part : IsPartOfFile file proof from to output
      ⊎ Collision (CheckedForFile proof chunks (replicate 32 0)) (HashedForFile file (replicate 32 0))

-- a line doesn't say a proof that shows the file hash
abbrev pub IsOpenFaultOf : List ℕ → List ℕ → RangeFault → Type 0
IsOpenFaultOf file_hash line (BadRange number rule) = (number ≡ 1) × SaysNoProof line rule
IsOpenFaultOf file_hash line Mismatch = (proof : Proof) × SaysProof line proof × ¬ (Shows proof file_hash (replicate 32 0))
IsOpenFaultOf file_hash line Memory = Unit {0}
IsOpenFaultOf file_hash line (BadLine number) = ⊥
IsOpenFaultOf file_hash line (Sizes number) = ⊥
IsOpenFaultOf file_hash line NoChunks = ⊥
IsOpenFaultOf file_hash line Read = ⊥
IsOpenFaultOf file_hash line Write = ⊥

-- the faults of `verify`. With a mismatch the line says a proof, and there are no such bytes.
abbrev pub IsVerifyFaultOf : List ℕ → ℕ → ℕ → List ℕ → RangeFault → Type 0
IsVerifyFaultOf file_hash from to text (BadLine number) = (number ≡ 1) × (byte_limit < length (first_line text))
IsVerifyFaultOf file_hash from to text (BadRange number rule) = (number ≡ 1) × SaysNoProof (first_line text) rule
IsVerifyFaultOf file_hash from to text Mismatch = (proof : Proof) × SaysProof (first_line text) proof
    × ((output : List ℕ) → ¬ (IsVerifiedOf file_hash from to text output))
IsVerifyFaultOf file_hash from to text (Sizes number) = ⊥
IsVerifyFaultOf file_hash from to text NoChunks = ⊥
IsVerifyFaultOf file_hash from to text Memory = Unit {0}
IsVerifyFaultOf file_hash from to text Read = Unit {0}
IsVerifyFaultOf file_hash from to text Write = Unit {0}
