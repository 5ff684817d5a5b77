-- What a chunker has taken of a chunk.
use Rattle.std.specs.Prelude.{◌≡◌, ℕ, ◌+◌, ◌<◌, List, ◌++◌, length}
use Rattle.xet_chunker.specs.Cuts.{most, cuts_at, cuts_from}
use Rattle.xet_chunker.specs.declared.chunker.Chunker.{Chunker}

-- the chunker s has taken the bytes of a chunk that has not ended: whatever follows them, the cuts are those that follow from the
-- chunker's size and gear
unfoldable pub Holds : Chunker → List ℕ → Type 0
Holds s chunk = (s.size ≡ length chunk) × (length chunk < most)
    × ((at : ℕ) (rest : List ℕ) → cuts_at at (chunk ++ rest) ≡ cuts_from (at + length chunk) s.size s.gear rest)
