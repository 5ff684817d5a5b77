-- What opening a proof finds, and what an opened range keeps. Only private contracts and proofs use it.
use Rattle.std.specs.Prelude.{◌≡◌, ℕ, List, Option, Some, None}
use Rattle.range_proof.specs.RangeProof.{Proof, IsTop, HasHashes, offset_of, file_size_of, IsWellFormed}
use Rattle.range_proof.specs.Steps.Places.{ArePlaces}

-- a proof has this top, and no other; or none
abbrev pub HasTop : Proof → Option (List ℕ) → Type 0
HasTop proof None = (hash : List ℕ) → ¬ (IsTop proof hash)
HasTop proof (Some top) = IsTop proof top × ((hash : List ℕ) → IsTop proof hash → hash ≡ top)

-- what an opened range keeps beside the proof: where its chunks are in the file, and the file's size
pub record IsOpened (proof : Proof) (places : List ℕ) (file_size : ℕ) : Type 0 where
  pub well_formed : IsWellFormed proof
  pub hashes : HasHashes proof
  pub places_are : ArePlaces (offset_of proof) proof.chunks places
  pub size_is : file_size ≡ file_size_of proof
