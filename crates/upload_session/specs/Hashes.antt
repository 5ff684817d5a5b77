-- The hashes of chunks as sets: lists for which only membership counts.
use Rattle.std.specs.Prelude.{◌≡◌, ℕ, Bool, not, List, ◌&&◌, ◌||◌, is_some, map, nat_eq}
use Rattle.std.specs.Cmp.Lexicographic.{pointwise}
use Rattle.std.specs.List.{IsDistinct, list_any}
use Rattle.xet_hash.specs.FiniteMap.{value_at}
use Rattle.xet_roots.specs.Groups.{Node}
use Rattle.upload_session.specs.declared.kept_hashes.SeenHashes.{SeenHashes}

-- a hash as its four words
abbrev pub Hash : Type 0
Hash = List ℕ

-- whether two hashes are equal
abbrev pub hash_eq : Hash → Hash → Bool
hash_eq = pointwise nat_eq

-- the hashes of some chunks
abbrev pub hashes_of : List Node → List Hash
hashes_of chunks = map (λ chunk. chunk.0) chunks

-- whether a hash is in a list
abbrev pub is_among : List Hash → Hash → Bool
is_among hashes hash = list_any (hash_eq hash) hashes

-- `all` has exactly the hashes that either list has
abbrev pub AreBoth : List Hash → List Hash → List Hash → Type 0
AreBoth first second all =
    (hash : Hash) → is_among all hash ≡ (is_among first hash || is_among second hash)

-- `new` has each hash of `hashes` that isn't known, once
pub record AreNew (known hashes new : List Hash) : Type 0 where
  pub each_once : IsDistinct hash_eq new
  pub among : (hash : Hash)
      → is_among new hash ≡ (is_among hashes hash && not (is_among known hash))

-- `rest` has exactly the hashes of `all` that `removed` lacks
abbrev pub AreWithout : List Hash → List Hash → List Hash → Type 0
AreWithout all removed rest =
    (hash : Hash) → is_among rest hash ≡ (is_among all hash && not (is_among removed hash))

-- the hashes that were seen are exactly those of a list
abbrev pub Knows : {A : Type 0} → SeenHashes A → List Hash → Type 0
Knows seen known = (hash : Hash) → is_some (value_at hash_eq seen.hashes hash) ≡ is_among known hash
