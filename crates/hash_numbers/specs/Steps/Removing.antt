-- Entries without those of some hashes. Only private contracts and proofs use them.
use Rattle.std.specs.Prelude.{◌≡◌, Bool, List, None, if◌then◌else◌}
use Rattle.std.specs.List.{list_any}
use Rattle.hash_numbers.specs.Index.{Entry, Hash, hash_eq, number_of}

-- whether a hash is in a list
abbrev pub is_among : List Hash → Hash → Bool
is_among hashes hash = list_any (hash_eq hash) hashes

-- `rest` gives no number to a hash of `removed`, and to each other hash what `all` gives
abbrev pub IsWithout : List Entry → List Hash → List Entry → Type 0
IsWithout all removed rest =
    (hash : Hash) → number_of rest hash ≡ (if is_among removed hash then None else number_of all hash)
