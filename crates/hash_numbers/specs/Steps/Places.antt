-- Where a table looks for an entry. Only private contracts and proofs use them.
use Rattle.std.specs.Prelude.{◌≡◌, ◌≢◌, ℕ, ◌+◌, ◌<◌, ◌≤◌, List, [], bit_and, get_or, length, slice_index}
use Rattle.std.specs.Map.{keys_of}
use Rattle.hash_numbers.specs.Index.{Hash}

-- where the search for a hash begins
abbrev pub home_of : ℕ → Hash → ℕ
home_of mask hash = bit_and (slice_index hash 0) mask

-- entry `i` has the hash
pub record IsEntryOf {V : Type 0} (entries : List (Hash × V)) (i : ℕ) (hash : Hash) : Type 0 where
  pub inside : i < length entries
  pub hash_is : get_or (keys_of entries) i [] ≡ hash

-- a search from `home` comes to a place: it is near, and no number before it is 0
pub record Reaches (numbers : List ℕ) (home place : ℕ) : Type 0 where
  pub inside : place < length numbers
  pub after : home ≤ place
  pub near : place < home + 32
  pub filled : (before : ℕ) → home ≤ before → before < place → slice_index numbers before ≢ 0

-- such a search comes to the number of entry `i`, which is 1 more
pub record StandsIn (numbers : List ℕ) (home i : ℕ) : Type 0 where
  pub place : ℕ
  pub reached : Reaches numbers home place
  pub number : slice_index numbers place ≡ i + 1
