-- The words of compressions that share vectors: quad j of a vector is compression j's.
use Rattle.std.specs.Prelude.{ℕ, ◌+◌, ◌*◌, List, [], ◌∷◌, ◌++◌, map, slice_index}
use Rattle.keyed_blake3.specs.Blake3.{half_mix}
use Rattle.keyed_blake3.specs.declared.compression.rows.Quads.{Quads}
use Rattle.keyed_blake3.specs.declared.compression.rows.Rows.{Rows}
use Rattle.keyed_blake3.specs.declared.compression.rows.Values.{Values}

-- the four words of quad j
abbrev pub quad_at : ℕ → List ℕ → List ℕ
quad_at j x = map (λ k. slice_index x (4 * j + k)) (0 ∷ 1 ∷ 2 ∷ 3 ∷ [])

-- the words of state j
abbrev pub state_in : {n : ℕ} → ℕ → Rows n → List ℕ
state_in j v = quad_at j v.a ++ quad_at j v.b ++ quad_at j v.c ++ quad_at j v.d

-- the words 0, 1, .. of a message; x has the even ones and y the odd ones
abbrev pub zipped : List ℕ → List ℕ → List ℕ
zipped x y = slice_index x 0 ∷ slice_index y 0 ∷ slice_index x 1 ∷ slice_index y 1
    ∷ slice_index x 2 ∷ slice_index y 2 ∷ slice_index x 3 ∷ slice_index y 3 ∷ []

-- the words of a quad from the second on, and then its first
abbrev pub from_second : List ℕ → List ℕ
from_second x = map (slice_index x) (1 ∷ 2 ∷ 3 ∷ 0 ∷ [])

-- the words of message block j: the quads of the diagonals begin with the last diagonal's
abbrev pub words_in : {n : ℕ} → ℕ → Quads n → List ℕ
words_in j m = zipped (quad_at j m.column_first) (quad_at j m.column_second)
    ++ zipped (from_second (quad_at j m.diagonal_first)) (from_second (quad_at j m.diagonal_second))

-- chaining value j
abbrev pub value_in : {n : ℕ} → ℕ → Values n → List ℕ
value_in j v = quad_at j v.a ++ quad_at j v.b

-- half of G on each column of the state: one word of x for each, and the rotations r and s
unfoldable pub half_columns : List ℕ → List ℕ → ℕ → ℕ → List ℕ
half_columns v x r s =
    half_mix (half_mix (half_mix (half_mix v 0 4 8 12 (slice_index x 0) r s) 1 5 9 13 (slice_index x 1) r s) 2 6 10 14 (slice_index x 2) r s)
    3 7 11 15 (slice_index x 3) r s

-- the rows of a state but b turned, so that the diagonals stand as columns, the last one first, and back
abbrev pub turned : List ℕ → List ℕ
turned v = map (slice_index v) (3 ∷ 0 ∷ 1 ∷ 2 ∷ 4 ∷ 5 ∷ 6 ∷ 7 ∷ 9 ∷ 10 ∷ 11 ∷ 8 ∷ 14 ∷ 15 ∷ 12 ∷ 13 ∷ [])

abbrev pub turned_back : List ℕ → List ℕ
turned_back v = map (slice_index v) (1 ∷ 2 ∷ 3 ∷ 0 ∷ 4 ∷ 5 ∷ 6 ∷ 7 ∷ 11 ∷ 8 ∷ 9 ∷ 10 ∷ 14 ∷ 15 ∷ 12 ∷ 13 ∷ [])
