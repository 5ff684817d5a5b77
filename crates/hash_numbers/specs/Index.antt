-- Numbers of hashes: a list of entries, each a hash and its number. No two have the same hash, and their order doesn't
-- matter.
use Rattle.std.specs.Prelude.{◌≡◌, ℕ, ◌+◌, Bool, List, ◌++◌, Option, length, nat_eq}
use Rattle.std.specs.Cmp.Lexicographic.{pointwise}
use Rattle.xet_hash.specs.FiniteMap.{value_at, IsFiniteMap}

-- a hash as its four words
abbrev pub Hash : Type 0
Hash = List ℕ

-- a hash, and a number that is given to it
abbrev pub Entry : Type 0
Entry = Hash × ℕ

-- whether two hashes are equal
abbrev pub hash_eq : Hash → Hash → Bool
hash_eq = pointwise nat_eq

-- the number of a hash: that of the first entry with this hash, if there is one
abbrev pub number_of : List Entry → Hash → Option ℕ
number_of entries hash = value_at hash_eq entries hash

-- no two entries have the same hash
abbrev pub IsIndex : List Entry → Type 0
IsIndex entries = IsFiniteMap hash_eq entries

-- each hash has the same number in both, or none in either
abbrev pub SameNumbers : List Entry → List Entry → Type 0
SameNumbers first second = (hash : Hash) → number_of first hash ≡ number_of second hash

-- both have the same entries, in any order
pub record AreSame (first second : List Entry) : Type 0 where
  pub numbers : SameNumbers first second
  pub count : length first ≡ length second

-- `new` is `old` after the pairs of `given` were put in: each hash has the number that came first, first in `old` and
-- then in `given`; `count` hashes had no number in `old`
pub record Inserts (old given new : List Entry) (count : ℕ) : Type 0 where
  pub numbers : SameNumbers new (old ++ given)
  pub counted : length new ≡ length old + count
  pub before : IsIndex old
  pub after : IsIndex new
