-- That a table finds its entries. Only private contracts and proofs use them.
use Rattle.std.specs.Prelude.{◌≡◌, ◌≢◌, ℕ, ◌+◌, ◌<◌, ◌⊎◌, List, [], Option, Some, None, get_or, length}
use Rattle.std.specs.BTreeMap.{get}
use Rattle.std.specs.List.{IsDistinct}
use Rattle.std.specs.Map.{keys_of}
use Rattle.xet_hash.specs.FiniteMap.{IsFiniteMap}
use Rattle.xet_hash.specs.HashForms.{hash_cmp}
use Rattle.hash_numbers.specs.Index.{Hash, hash_eq}
use Rattle.hash_numbers.specs.Steps.Places.{home_of, StandsIn}
use Rattle.hash_numbers.specs.declared.slots.Slots.{Slots}

-- the search for a hash finds the index `i`
abbrev pub Finds : {A : Type 0} → Slots A → Hash → ℕ → Type 0
Finds slots hash i =
    StandsIn slots.numbers.items (home_of slots.mask hash) i ⊎ (get hash_cmp slots.overflow hash ≡ Some i)

-- the search for each of some hashes finds its index
abbrev pub AllFound : {A : Type 0} → List Hash → Slots A → Type 0
AllFound hashes slots = (i : ℕ) → i < length hashes → Finds slots (get_or hashes i []) i

-- the same where there may be no slots yet
abbrev pub AreFound : {A : Type 0} → List Hash → Option (Slots A) → Type 0
AreFound hashes None = hashes ≡ []
AreFound hashes (Some slots) = AllFound hashes slots

-- the entries have different hashes, and each is found
pub record IsTable {V A : Type 0} (entries : List (Hash × V)) (slots : Option (Slots A)) : Type 0 where
  pub distinct : IsFiniteMap hash_eq entries
  pub found : AreFound (keys_of entries) slots

-- `rest` is `hashes` without the one at `i`, and the last in its place
pub record MovesLast (hashes : List Hash) (i : ℕ) (rest : List Hash) : Type 0 where
  pub distinct : IsDistinct hash_eq hashes
  pub inside : i < length hashes
  pub shorter : length rest + 1 ≡ length hashes
  pub last : i < length rest → get_or rest i [] ≡ get_or hashes (length rest) []
  pub others : (k : ℕ) → k ≢ i → k < length rest → get_or rest k [] ≡ get_or hashes k []
