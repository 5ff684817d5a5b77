-- The words of states whose rows are vectors.
use Rattle.std.specs.Prelude.{ℕ, ◌^◌, List, [], ◌∷◌, ◌++◌, drop, slice_index, take}
use Rattle.keyed_blake3.specs.declared.compression.lane_rows.ByteRow.{ByteRow}
use Rattle.keyed_blake3.specs.declared.compression.lane_rows.LaneRows.{LaneRows}
use Rattle.keyed_blake3.specs.declared.compression.lane_rows.Row.{Row}
use lib.Lanes.{digits_l, number_l}

-- the n words whose bytes are given, little-endian
unfoldable pub words_of_bytes : ℕ → List ℕ → List ℕ
words_of_bytes n bytes = digits_l (2 ^ 32) n (number_l 256 bytes)

-- the words of a row at lane j
abbrev pub row_at : {l : ℕ} → ℕ → Row l → List ℕ
row_at j x = slice_index x.w0 j ∷ slice_index x.w1 j ∷ slice_index x.w2 j ∷ slice_index x.w3 j ∷ []

-- the words of a row at lane j of l
abbrev pub byte_row_at : {b : ℕ} → ℕ → ℕ → ByteRow b → List ℕ
byte_row_at l j x = slice_index (words_of_bytes l x.w0) j ∷ slice_index (words_of_bytes l x.w1) j
    ∷ slice_index (words_of_bytes l x.w2) j ∷ slice_index (words_of_bytes l x.w3) j ∷ []

-- the words of a state at lane j
abbrev pub state_at : {l b : ℕ} → ℕ → LaneRows l b → List ℕ
state_at {l} j v = row_at j v.a ++ row_at j v.b ++ row_at j v.c ++ byte_row_at l j v.d

-- the words of a row from word n on, and then its first n
abbrev pub from_word : ℕ → List ℕ → List ℕ
from_word n x = drop n x ++ take n x
