-- Several lists of words side by side. Vector number k has word number k of each list, and lane j of a vector belongs
-- to list j.
use Rattle.std.specs.Prelude.{◌≡◌, ℕ, ◌+◌, ◌*◌, ◌++◌, List, [], drop, get_or, length, map, slice_index, take}
use Rattle.std.specs.List.{All, range_with_len}
use Rattle.keyed_blake3.specs.Blake3.{chunk_value}

-- the words at lane j
abbrev pub lane : ℕ → List (List ℕ) → List ℕ
lane j v = map (λ w. slice_index w j) v

-- the eight vectors of v with those of w at their right, so that the lanes of w follow on those of v
abbrev pub beside : List (List ℕ) → List (List ℕ) → List (List ℕ)
beside v w = map (λ i. get_or v i [] ++ get_or w i []) (range_with_len 0 8)

-- each vector has l lanes
abbrev pub AreFull : ℕ → List (List ℕ) → Type 0
AreFull l v = All (λ w. length w ≡ l) v

-- chunk number j of some bytes
abbrev pub chunk_at : ℕ → List ℕ → List ℕ
chunk_at j bytes = take 1024 (drop (1024 * j) bytes)

-- the value of chunk number j of some bytes, of which the first has number `first`
abbrev pub value_at : List ℕ → ℕ → List ℕ → ℕ → List ℕ
value_at key first bytes j = chunk_value key (first + j) (chunk_at j bytes) 0
