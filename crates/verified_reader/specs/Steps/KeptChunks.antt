-- What the two maps of kept chunks keep true: chunks by the numbers of their last uses, and these numbers by where the chunks
-- begin.
use Rattle.std.specs.Prelude.{◌≡◌, ℕ, ◌+◌, ◌^◌, ◌<◌, ◌≤◌, List, length, Some, All, map}
use Rattle.std.specs.BTreeMap.{is_at}
use Rattle.std.specs.Map.{lookup, values_of}
use Rattle.std.specs.Ordering.{nat_cmp}
use Rattle.verified_reader.specs.Kept.{Chunk, size_of_kept}
use Rattle.verified_reader.specs.declared.kept_chunks.KeptChunk.{KeptChunk}

-- what is found at a number
abbrev pub IsAt : {X : Type 0} → ℕ → List (ℕ × X) → X → Type 0
IsAt number entries x = lookup (is_at (nat_cmp number)) entries ≡ Some x

module _ {A : Type 0} where
  -- what is seen of a chunk
  abbrev pub chunk_of : KeptChunk A → Chunk
  chunk_of chunk = record { begin = chunk.begin; bytes = chunk.bytes.items }

  -- the chunks, in the order of their last uses
  abbrev pub chunks_of : List (ℕ × KeptChunk A) → List Chunk
  chunks_of by_use = map chunk_of (values_of by_use)

  -- each chunk is found at the number of its use, which is below the next one, and by where it begins; no chunk is empty, none
  -- begins within another, and the places of all fit 64 bits
  pub record AreInOrder (by_use : List (ℕ × KeptChunk A)) (uses : List (ℕ × ℕ)) (next size : ℕ) : Type 0 where
    pub listed : All (λ (entry : ℕ × KeptChunk A). IsAt entry.0 by_use entry.1) by_use
    pub below : All (λ (entry : ℕ × KeptChunk A). entry.0 < next) by_use
    pub size_is : size ≡ size_of_kept (chunks_of by_use)
    pub found : (number : ℕ) (chunk : KeptChunk A) → IsAt number by_use chunk → IsAt chunk.begin uses number
    pub named : (begin number : ℕ) → IsAt begin uses number → (chunk : KeptChunk A) × IsAt number by_use chunk × (chunk.begin ≡ begin)
    pub some : (number : ℕ) (chunk : KeptChunk A) → IsAt number by_use chunk → 0 < length chunk.bytes.items
    pub fits : (number : ℕ) (chunk : KeptChunk A) → IsAt number by_use chunk → chunk.begin + length chunk.bytes.items < 2 ^ 64
    pub apart : (number other : ℕ) (chunk next : KeptChunk A) → IsAt number by_use chunk → IsAt other by_use next →
        chunk.begin < next.begin → chunk.begin + length chunk.bytes.items ≤ next.begin
