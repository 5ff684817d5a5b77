-- Chunks whose data is in one buffer, one after another.
use Rattle.std.specs.Prelude.{◌≡◌, ℕ, ◌+◌, ◌≤◌, List, [], ◌∷◌, length, map, slice_range}
use Rattle.xet_hash.specs.Blake3.{keyed_hash}
use Rattle.xet_hash.specs.Hash.{data_key, hash_of}
use Rattle.yurewha_c.specs.declared.hash.Hash.{Hash}

-- no offset is less than `from` or the one before it, and none is greater than `end`
abbrev pub Rise : ℕ → List ℕ → ℕ → Type 0
Rise from [] end = from ≤ end
Rise from (offset ∷ offsets) end = (from ≤ offset) × Rise offset offsets end

-- offsets into bytes, which cut out `count` pieces
abbrev pub AreOffsets : List ℕ → List ℕ → ℕ → Type 0
AreOffsets bytes offsets count = (length offsets ≡ count + 1) × Rise 0 offsets (length bytes)

-- the hashes of the pieces, as words
abbrev pub hashes_between : List ℕ → List ℕ → List (List ℕ)
hashes_between bytes [] = []
hashes_between bytes (offset ∷ []) = []
hashes_between bytes (offset ∷ next ∷ offsets) =
    hash_of (keyed_hash data_key (slice_range bytes offset next)) ∷ hashes_between bytes (next ∷ offsets)

abbrev pub words_of : List Hash → List (List ℕ)
words_of hashes = map (λ hash. hash.words) hashes
