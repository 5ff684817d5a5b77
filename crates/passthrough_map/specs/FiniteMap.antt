-- A finite map: the list of its entries, each a key and its value. No two keys are equal, and the order of the entries
-- doesn't matter.
use Rattle.std.specs.Prelude.{◌≡◌, Bool, List, ◌∷◌, Option, Some, MatchOption, reverse, if◌then◌else◌}
use Rattle.std.specs.List.{IsDistinct}
use Rattle.std.specs.List.Sorted.{IsPermutation}
use Rattle.std.specs.Map.{keys_of, lookup, lookup_key, remove_entry, set_value}

module _ {K V : Type 0} (eq : K → K → Bool) where
  -- no two keys are equal
  abbrev pub IsFiniteMap : List (K × V) → Type 0
  IsFiniteMap entries = IsDistinct eq (keys_of entries)

  -- the value at a key
  abbrev pub value_at : List (K × V) → K → Option V
  value_at entries key = lookup (eq key) entries

  -- the stored key that is equal to a key
  abbrev pub key_at : List (K × V) → K → Option K
  key_at entries key = lookup_key (eq key) entries

module _ {K V : Type 0} (eq : K → K → Bool) where
  -- `new` has `value` at `key`, or nothing if it is `None`, and at each other key what `old` has
  abbrev pub Sets : List (K × V) → K → Option V → List (K × V) → Type 0
  Sets old key value new =
      (other : K) → value_at eq new other ≡ (if eq key other then value else value_at eq old other)

  -- the entries after `value` is put at `key`: it replaces the value there and the stored key stays, or there is one
  -- more entry
  abbrev pub Puts : List (K × V) → K → V → List (K × V) → Type 0
  Puts old key value new =
      MatchOption (value_at eq old key) (IsPermutation ((key, value) ∷ old) new) (λ _. new ≡ set_value (eq key) old value)

  -- `new` is `old` after `value` is put at `key`
  pub record IsPut (old : List (K × V)) (key : K) (value : V) (new : List (K × V)) : Type 0 where
    pub sets : Sets old key (Some value) new
    pub puts : Puts old key value new

  -- the entries after `key` is removed: the others, in some order
  abbrev pub Removes : List (K × V) → K → List (K × V) → Type 0
  Removes old key new = IsPermutation (remove_entry (eq key) old) new

  -- the map of some pairs: at each key the value of the last pair with that key, stored under the key of the first one
  pub record IsMapOf (pairs entries : List (K × V)) : Type 0 where
    pub last_value : (key : K) → value_at eq entries key ≡ value_at eq (reverse pairs) key
    pub first_key : (key : K) → key_at eq entries key ≡ key_at eq pairs key
    pub map : IsFiniteMap eq entries
