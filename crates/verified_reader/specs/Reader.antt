-- What was checked of a file, and what that says of the bytes and the size that are handed out.
use Rattle.std.specs.Prelude.{◌≡◌, ◌⊎◌, ℕ, ◌+◌, ◌-◌, ◌*◌, ◌^◌, ◌<◌, ◌≤◌, List, [], ◌∷◌, ◌++◌, Option, None, Some, IfSome, All, Contains, length, map, min, take, slice_get, slice_range, ⊤}
use Rattle.commitment.specs.Commitment.{chunk_node, chunk_nodes, HashedForFile, Collision}
use Rattle.xet_roots.specs.Roots.{IsFileHash}
use Rattle.range_proof.specs.RangeProof.{Proof, Shows, begin_of, file_size_of}
use Rattle.range_proof.specs.Reading.{bytes_of_chunks}
use Rattle.range_proof.specs.Checking.{IsSoundCheck}
use Rattle.range_proof.specs.Soundness.{CheckedForFile}
use Rattle.verified_reader.specs.Kept.{Chunk}
use Rattle.verified_reader.specs.declared.part_fault.PartFault.{PartFault}
use Rattle.verified_reader.specs.declared.part_fault.PartFault.TheVariants.{Mismatch, Elsewhere, TooFar, OutOfMemory}

-- a check: the proof that was given, and the data that was checked as that of one of its chunks
pub record Check : Type 0 where
  pub proof : Proof
  pub bytes : List ℕ

-- a chunk was checked by a proof that shows a file hash under a salt: it stands at the place of a chunk of the proof
pub record IsCheckedBy (proof : Proof) (hash salt : List ℕ) (chunk : Chunk) : Type 0 where
  pub number : ℕ
  pub shows : Shows proof hash salt
  pub place : chunk.begin ≡ begin_of proof number
  pub sound : IsSoundCheck proof number chunk.bytes

-- a chunk was checked in one of some checks
pub record IsChecked (checks : List Check) (hash salt : List ℕ) (chunk : Chunk) : Type 0 where
  pub proof : Proof
  pub among : Contains checks (record { proof = proof; bytes = chunk.bytes })
  pub checked : IsCheckedBy proof hash salt chunk

-- a message that was hashed in one of some checks, and another one that is hashed for a file, have the same hash
pub record ACheckCollides (checks : List Check) (salt : List ℕ) (file : List (List ℕ)) : Type 0 where
  pub check : Check
  pub among : Contains checks check
  pub collision : Collision (CheckedForFile check.proof (check.bytes ∷ []) salt) (HashedForFile file salt)

-- a file has some bytes from a place on
abbrev pub HasBytesAt : List (List ℕ) → ℕ → List ℕ → Type 0
HasBytesAt file place bytes = bytes ≡ slice_range (bytes_of_chunks file) place (place + length bytes)

-- each file with a file hash under a salt has some bytes from a place on, or one of some checks collides
abbrev pub AreOfFile : List Check → List ℕ → List ℕ → ℕ → List ℕ → Type 0
AreOfFile checks hash salt place bytes = (file : List (List ℕ)) → IsFileHash (chunk_nodes file) salt hash →
    HasBytesAt file place bytes ⊎ ACheckCollides checks salt file

-- each such file has a size in bytes, or one of some checks collides
abbrev pub IsSizeOfFile : List Check → List ℕ → List ℕ → ℕ → Type 0
IsSizeOfFile checks hash salt size = (file : List (List ℕ)) → IsFileHash (chunk_nodes file) salt hash →
    (length (bytes_of_chunks file) ≡ size) ⊎ ACheckCollides checks salt file

-- a reader: its file hash and salt, what its chunks count at most, the chunks, and the size of the file if that was shown
pub record Reader : Type 0 where
  pub hash : List ℕ
  pub salt : List ℕ
  pub most : ℕ
  pub kept : List Chunk
  pub size : Option ℕ

-- a place, or the end of the file if its size is known and it comes first
abbrev pub within_file : Option ℕ → ℕ → ℕ
within_file None place = place
within_file (Some size) place = min place size

-- the end of the file if its size is known, or the last place that a file can end at
abbrev pub last_place : Option ℕ → ℕ
last_place size = within_file size (2 ^ 64 - 1)

-- pieces of so many bytes follow one another from the start of a file, the last one up to its end: this one has a place
pub record IsPieceAt (size : Option ℕ) (piece place begin end : ℕ) : Type 0 where
  pub number : ℕ
  pub begin_is : begin ≡ number * piece
  pub end_is : end ≡ min (last_place size) (begin + piece)
  pub begins : begin ≤ place
  pub ends : place < end

-- all that a reader keeps was checked in some checks
pub record IsShownBy (checks : List Check) (reader : Reader) : Type 0 where
  pub kept : All (IsChecked checks reader.hash reader.salt) reader.kept
  pub size : IfSome reader.size (IsSizeOfFile checks reader.hash reader.salt)

-- a part of a file that was asked for: the file hash and salt, a proof that shows them, the places from which and up to which
-- bytes are wanted, how many of the proof's first chunks were right, and those of them that are copied
pub record Part : Type 0 where
  pub hash : List ℕ
  pub salt : List ℕ
  pub proof : Proof
  pub from : ℕ
  pub to : ℕ
  pub right : ℕ
  pub checked : List Chunk

-- the checks of a part's chunks
abbrev pub checks_of : Part → List Check
checks_of part = map (λ chunk. record { proof = part.proof; bytes = chunk.bytes }) part.checked

-- one more check of a part: of its proof and, if one of its chunks was right, of the data of a chunk that was checked, since only
-- copied chunks stand in the part
pub record IsCheckOf (part : Part) (check : Check) : Type 0 where
  pub proof : check.proof ≡ part.proof
  pub right : 0 < part.right → (chunk : Chunk) × IsCheckedBy part.proof part.hash part.salt chunk × (check.bytes ≡ chunk.bytes)

-- a part is of a reader's file: it has the same file hash and salt, and its proof no other size than the one that is known
pub record IsPartOf (reader : Reader) (part : Part) : Type 0 where
  pub hash : part.hash ≡ reader.hash
  pub salt : part.salt ≡ reader.salt
  pub size : IfSome reader.size (λ size. size ≡ file_size_of part.proof)

-- a reader has the size of the file from a part, if a chunk of it was right
pub record HasLearned (old : Reader) (part : Part) (new : Reader) : Type 0 where
  pub some : 0 < part.right → new.size ≡ Some (file_size_of part.proof)
  pub none : part.right ≡ 0 → new.size ≡ old.size

-- the range of a proof goes from one place to another
pub record GoesFrom (proof : Proof) (begin end : ℕ) : Type 0 where
  pub begin_is : begin ≡ begin_of proof 0
  pub end_is : end ≡ begin_of proof (length proof.chunks)

-- the range of a proof holds the bytes of the file from one place to another, or to the end of the file. There is one, or the
-- file has none
pub record HoldsPlaces (proof : Proof) (from to : ℕ) : Type 0 where
  pub begin : begin_of proof 0 ≤ min from (file_size_of proof)
  pub end : min to (file_size_of proof) ≤ begin_of proof (length proof.chunks)
  pub some : 0 < file_size_of proof → from < min to (file_size_of proof)

-- it begins more than some bytes before them, or ends more than that after them
abbrev pub IsFarFrom : Proof → ℕ → ℕ → ℕ → Type 0
IsFarFrom proof from to beyond = (beyond < min from (file_size_of proof) - begin_of proof 0)
    ⊎ (beyond < begin_of proof (length proof.chunks) - min to (file_size_of proof))

-- why a proof isn't opened for the bytes from one place to another
abbrev pub IsWhyRefused : Proof → List ℕ → List ℕ → ℕ → ℕ → ℕ → PartFault → Type 0
IsWhyRefused proof hash salt from to beyond Mismatch = ¬ (Shows proof hash salt)
IsWhyRefused proof hash salt from to beyond (Elsewhere begin end) = Shows proof hash salt × GoesFrom proof begin end × ¬ (HoldsPlaces proof from to)
IsWhyRefused proof hash salt from to beyond (TooFar begin end) =
    Shows proof hash salt × GoesFrom proof begin end × HoldsPlaces proof from to × IsFarFrom proof from to beyond
IsWhyRefused proof hash salt from to beyond OutOfMemory = ⊤

-- so many of a proof's first chunks stand at the front of some data, before the rest
pub record AreRight (proof : Proof) (number : ℕ) (all rest : List ℕ) : Type 0 where
  pub chunks : List (List ℕ)
  pub nodes_are : chunk_nodes chunks ≡ take number proof.chunks
  pub bytes_are : bytes_of_chunks chunks ++ rest ≡ all

-- copies of some of a proof's first chunks, in their order and at their places
pub data AreCopies (proof : Proof) : List (List ℕ) → List Chunk → Type 0 where
  none : AreCopies proof [] []
  more : {copies : List Chunk} (chunks : List (List ℕ)) (chunk : List ℕ) → AreCopies proof chunks copies →
      AreCopies proof (chunks ++ chunk ∷ []) (copies ++ record { begin = begin_of proof (length chunks); bytes = chunk } ∷ [])
  left_out : {copies : List Chunk} (chunks : List (List ℕ)) (chunk : List ℕ) → AreCopies proof chunks copies →
      AreCopies proof (chunks ++ chunk ∷ []) copies

-- so many of a proof's first chunks are right in some data, and some of them are copied
pub record AreCopied (proof : Proof) (number : ℕ) (all : List ℕ) (copies : List Chunk) : Type 0 where
  pub rest : List ℕ
  pub right : AreRight proof number all rest
  pub are : AreCopies proof right.chunks copies

-- the data of a proof's chunk stands at the front of some bytes
abbrev pub BeginsWith : Proof → ℕ → List ℕ → Type 0
BeginsWith proof number bytes = (count : ℕ) × (count ≤ length bytes) × (slice_get proof.chunks number ≡ Some (chunk_node (take count bytes)))

-- so many of a proof's first chunks are right in some data, and the next one isn't
abbrev pub AreAllRight : Proof → ℕ → List ℕ → Type 0
AreAllRight proof number all = (rest : List ℕ) × AreRight proof number all rest × ¬ (BeginsWith proof number rest)
