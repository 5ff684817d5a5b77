-- Chunks that are kept, the one that was used longest ago first.
use Rattle.std.specs.Prelude.{◌≡◌, ◌⊎◌, ℕ, ◌+◌, ◌-◌, ◌^◌, ◌<◌, ◌≤◌, List, [], ◌∷◌, ◌++◌, length, drop, slice_index, sum_by, Contains}

-- a chunk that is kept: where in the file it begins, and its bytes
pub record Chunk : Type 0 where
  pub begin : ℕ
  pub bytes : List ℕ

-- where a chunk ends
abbrev pub end_of : Chunk → ℕ
end_of chunk = chunk.begin + length chunk.bytes

-- a chunk has the byte at a place
pub record HasPlace (chunk : Chunk) (place : ℕ) : Type 0 where
  pub begin : chunk.begin ≤ place
  pub end : place < end_of chunk

-- the byte at a place is kept
abbrev pub IsKept : List Chunk → ℕ → Type 0
IsKept kept place = (chunk : Chunk) × Contains kept chunk × HasPlace chunk place

-- some bytes are those of a kept chunk from a place to its end
abbrev pub AreKeptFrom : List Chunk → ℕ → List ℕ → Type 0
AreKeptFrom kept place bytes = (chunk : Chunk) × Contains kept chunk × HasPlace chunk place × (bytes ≡ drop (place - chunk.begin) chunk.bytes)

-- no byte from one place to another is kept
abbrev pub IsFree : List Chunk → ℕ → ℕ → Type 0
IsFree kept begin end = (chunk : Chunk) → Contains kept chunk → (end_of chunk ≤ begin) ⊎ (end ≤ chunk.begin)

-- each byte from one place to another is kept
abbrev pub AllKept : List Chunk → ℕ → ℕ → Type 0
AllKept kept from to = (place : ℕ) → from ≤ place → place < to → IsKept kept place

-- the first place from one place on and below another whose byte isn't kept
pub record IsFirstMissing (kept : List Chunk) (from to first : ℕ) : Type 0 where
  pub begins : from ≤ first
  pub within : first < to
  pub before : AllKept kept from first
  pub missing : ¬ (IsKept kept first)

-- what chunks count: their bytes, and 128 for each
abbrev pub size_of_kept : List Chunk → ℕ
size_of_kept kept = sum_by (λ chunk. length chunk.bytes + 128) kept

-- the chunk with the byte at a place is used: it is the last one now
pub record IsUsed (old : List Chunk) (place : ℕ) (new : List Chunk) : Type 0 where
  pub front : List Chunk
  pub chunk : Chunk
  pub back : List Chunk
  pub old_is : old ≡ front ++ chunk ∷ back
  pub has_place : HasPlace chunk place
  pub new_is : new ≡ front ++ back ++ chunk ∷ []

-- each of some bytes is that of a kept chunk at its place
abbrev pub AreKeptAt : List Chunk → ℕ → List ℕ → Type 0
AreKeptAt kept place bytes = (k : ℕ) → k < length bytes → (chunk : Chunk) × Contains kept chunk × HasPlace chunk (place + k)
    × (slice_index chunk.bytes ((place + k) - chunk.begin) ≡ slice_index bytes k)

-- some chunks that have a byte from one place to another are used, in the order of these bytes
pub data AreUsed (old : List Chunk) (from : ℕ) : ℕ → List Chunk → Type 0 where
  none : {to : ℕ} → AreUsed old from to old
  more : {between new : List Chunk} {place to : ℕ} → AreUsed old from place between → from ≤ place → place < to → IsUsed between place new →
      AreUsed old from to new

-- the chunks that were used longest ago are dropped until all count at most `most`, and no more of them
pub record DropsOldest (most : ℕ) (old new : List Chunk) : Type 0 where
  pub dropped : ℕ
  pub new_is : new ≡ drop dropped old
  pub fits : size_of_kept new ≤ most
  pub no_more : (fewer : ℕ) → fewer < dropped → most < size_of_kept (drop fewer old)

-- a chunk may be kept beside others: it has a byte, counts at most `most`, ends within 64 bits, and has no byte that is kept
pub record MayBeKept (most : ℕ) (old : List Chunk) (chunk : Chunk) : Type 0 where
  pub some : 0 < length chunk.bytes
  pub counts : length chunk.bytes + 128 ≤ most
  pub ends : end_of chunk < 2 ^ 64
  pub free : IsFree old chunk.begin (end_of chunk)

-- what is kept after one more chunk: if it may be kept, it is the last one, and of all those that were used last stay, as many as fit.
-- If not, all stay; the one that has its first byte is used, if there is one, unless an allocation for that fails
pub data Keeps (most : ℕ) (old : List Chunk) (chunk : Chunk) : List Chunk → Type 0 where
  kept : {new : List Chunk} → MayBeKept most old chunk → DropsOldest most (old ++ chunk ∷ []) new → Keeps most old chunk new
  stay : {new : List Chunk} → ¬ (MayBeKept most old chunk) → IsUsed old chunk.begin new ⊎ (new ≡ old) → Keeps most old chunk new

-- some chunks are kept, one after another. If an allocation fails, a chunk isn't
pub data KeepsAll (most : ℕ) (old : List Chunk) : List Chunk → List Chunk → Type 0 where
  none : KeepsAll most old [] old
  more : {between new : List Chunk} (chunks : List Chunk) (chunk : Chunk) → KeepsAll most old chunks between → Keeps most between chunk new →
      KeepsAll most old (chunks ++ chunk ∷ []) new
  lost : {new : List Chunk} (chunks : List Chunk) (chunk : Chunk) → KeepsAll most old chunks new → KeepsAll most old (chunks ++ chunk ∷ []) new
