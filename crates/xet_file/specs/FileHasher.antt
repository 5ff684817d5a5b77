-- What a hasher of a file has taken.
use Rattle.std.specs.Prelude.{◌≡◌, ℕ, ◌+◌, ◌^◌, ◌<◌, false, true, List, [], ◌∷◌, ◌++◌, length}
use Rattle.keyed_blake3.specs.Blake3Hasher as blake3
use Rattle.keyed_blake3.specs.declared.hasher.Hasher.{Hasher}
use Rattle.xet_hash.specs.Hash.{data_key}
use Rattle.xet_chunker.specs.Cuts.{cuts, cuts_at}
use Rattle.xet_chunker.specs.Chunker as chunker
use Rattle.xet_chunker.specs.Pieces.{joined}
use Rattle.xet_chunker.specs.declared.chunker.Chunker.{Chunker}
use Rattle.xet_roots.specs.Groups.{Node}
use Rattle.xet_roots.specs.Roots.{total_size}
use Rattle.chunk_ranges.specs.declared.chunk_range.ChunkRange as chunk_range
use Rattle.commitment.specs.Commitment.{chunk_nodes}

-- a hasher of a file in contracts: the state of the open chunk, the range of the first ended chunks and the nodes of the
-- others, and the number of bytes
pub record Parts (C : Type 0) : Type 0 where
  pub chunker : Chunker
  pub hasher : Hasher
  pub range : C
  pub waiting : List Node
  pub size : ℕ

-- the places where some parts of a message end, which begin at place `at`
unfoldable pub ends_of : ℕ → List (List ℕ) → List ℕ
ends_of at [] = []
ends_of at (part ∷ parts) = (at + length part) ∷ ends_of (at + length part) parts

module _ {C A : Type 0} (kind : chunk_range.Ghosts C A) where
  -- the hasher has taken the bytes of a file: some chunks have ended, and one is open
  pub record Holds (s : Parts C) (file : List ℕ) : Type 0 where
    pub ended : List (List ℕ)
    pub open_chunk : List ℕ
    pub file_is : file ≡ joined ended ++ open_chunk
    pub cut : chunker.Holds s.chunker open_chunk
    pub hashed : blake3.Holds data_key s.hasher open_chunk
    pub cuts_are : (rest : List ℕ) → cuts (joined ended ++ (open_chunk ++ rest))
        ≡ ends_of 0 ended ++ cuts_at (length (joined ended)) (open_chunk ++ rest)
    pub ranged : List Node
    pub nodes : chunk_nodes ended ≡ ranged ++ s.waiting
    pub stands : kind.stands s.range ranged
    pub start : kind.start s.range ≡ true
    pub end : kind.end s.range ≡ false
    pub total : kind.total s.range ≡ total_size ranged
    pub size_is : s.size ≡ length file
    pub fits : s.size < 2 ^ 64

-- a piece after the bytes of an open chunk: some chunks end in it, and another one is open then, which may be empty
pub record Takes (chunk piece : List ℕ) (cut : Chunker) (hashed : Hasher) (nodes : List Node) : Type 0 where
  pub ended : List (List ℕ)
  pub open_chunk : List ℕ
  pub bytes : chunk ++ piece ≡ joined ended ++ open_chunk
  pub cut_is : chunker.Holds cut open_chunk
  pub hashed_is : blake3.Holds data_key hashed open_chunk
  pub cuts_are : (at : ℕ) (rest : List ℕ) → cuts_at at (chunk ++ (piece ++ rest))
      ≡ ends_of at ended ++ cuts_at (at + length (joined ended)) (open_chunk ++ rest)
  pub nodes_are : nodes ≡ chunk_nodes ended
