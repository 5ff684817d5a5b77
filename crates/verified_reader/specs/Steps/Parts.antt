-- What a part keeps true.
use Rattle.std.specs.Prelude.{ℕ, ◌<◌, ◌≤◌, List, All, length}
use Rattle.range_proof.specs.RangeProof.{Proof, Shows, begin_of}
use Rattle.verified_reader.specs.Kept.{Chunk}
use Rattle.verified_reader.specs.Reader.{IsCheckedBy}

-- its range holds the wanted places; a chunk was checked if one is right; and so was each that is copied
pub record IsWanted (proof : Proof) (hash salt : List ℕ) (from to right : ℕ) (checked : List Chunk) : Type 0 where
  pub begin : begin_of proof 0 ≤ from
  pub in_order : from ≤ to
  pub end : to ≤ begin_of proof (length proof.chunks)
  pub shows : Shows proof hash salt
  pub within : right ≤ length proof.chunks
  pub shown : 0 < right → (chunk : Chunk) × IsCheckedBy proof hash salt chunk
  pub all : All (IsCheckedBy proof hash salt) checked
