-- The chunks of a file, as lists of bytes, and the hash that they give the file.
use Rattle.std.specs.Prelude.{ℕ, ◌-◌, List, [], ◌∷◌, take, drop}
use Rattle.xet_chunker.specs.Cuts.{cuts}
use Rattle.xet_roots.specs.Roots.{IsFileHash}
use Rattle.commitment.specs.Commitment.{chunk_nodes}

-- the parts of a message that begins at place `at`, each up to one of some places
unfoldable pub parts_at : ℕ → List ℕ → List ℕ → List (List ℕ)
parts_at at [] message = []
parts_at at (end ∷ ends) message = take (end - at) message ∷ parts_at end ends (drop (end - at) message)

-- the chunks of a file: its parts between its cuts
abbrev pub chunks_of : List ℕ → List (List ℕ)
chunks_of file = parts_at 0 (cuts file) file

-- the file hash under a salt of a file's bytes: that of the hashes and sizes of its chunks
abbrev pub IsHashOfBytes : List ℕ → List ℕ → List ℕ → Type 0
IsHashOfBytes file salt hash = IsFileHash (chunk_nodes (chunks_of file)) salt hash
