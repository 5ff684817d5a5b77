-- What the proof of a range is good for, and which range holds some bytes.
use Rattle.std.specs.Prelude.{◌≡◌, ℕ, ◌+◌, ◌-◌, ◌<◌, ◌≤◌, List, length, take}
use Rattle.xet_hash.specs.Hash.{default_hash}
use Rattle.xet_roots.specs.Groups.{Node}
use Rattle.xet_roots.specs.Roots.{total_size, IsRoot, IsFileHash}
use Rattle.range_proof.specs.RangeProof.{Proof, IsProofOf, Shows, ShowsRoot, offset_of, file_size_of}

-- the proof of the chunks from number `first` up to, but without, number `end`: it shows the file hash of all chunks
-- under each salt, and their root, unless that hash is the default hash; and it names where the range begins, and the
-- size of the file
pub record Proves (nodes : List Node) (first end : ℕ) (proof : Proof) : Type 0 where
  pub is_proof : IsProofOf nodes first end proof
  pub shows : (file_hash salt : List ℕ) → IsFileHash nodes salt file_hash → ¬ (file_hash ≡ default_hash) → Shows proof file_hash salt
  pub shows_root : (root : List ℕ) → IsRoot nodes root → ¬ (root ≡ default_hash) → ShowsRoot proof root
  pub offset : offset_of proof ≡ total_size (take first nodes)
  pub size : file_size_of proof ≡ total_size nodes

-- the least range of chunks that holds the bytes from one place to another: its first chunk holds the first byte, and
-- its last chunk the last one
pub record IsRangeOfBytes (nodes : List Node) (from to first end : ℕ) : Type 0 where
  pub some : first < end
  pub within : end ≤ length nodes
  pub first_begins : total_size (take first nodes) ≤ from
  pub first_ends : from < total_size (take (first + 1) nodes)
  pub last_begins : total_size (take (end - 1) nodes) < to
  pub last_ends : to ≤ total_size (take end nodes)
