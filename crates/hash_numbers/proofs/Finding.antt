-- That what was found is still found.
use Rattle.std.proofs.Common.{◌≡◌, ◌≢◌, ◌⊎◌, ◌+◌, ◌<◌, ℕ, false, List, get_or, set, slice_index, length, [], ◌≤◌, arith, ap, subst, sym, ◌∙◌, inl, inr, below_more, ◌∷◌, ◌++◌, ◌-◌}
use Rattle.std.specs.Prelude.{Option, Some, None, Result, Ok, Err, OnOk, OnErr, IfNone}
use Rattle.std.specs.BTreeMap.{BTreeMap, get, is_at, Updates}
use Rattle.std.specs.Cmp.Lexicographic.{texts_ties}
use Rattle.std.specs.List.{IsDistinct}
use Rattle.std.proofs.lemmas.Bool.{cases_eq, cases_lt}
use Rattle.std.proofs.lemmas.Cmp.{nat_list_eq_equiv}
use Rattle.std.proofs.lemmas.Map.Keys.{apart_from_distinct}
use Rattle.hash_numbers.specs.Steps.Finding.{AreFound, Finds, MovesLast}
use Rattle.hash_numbers.specs.declared.slots.Slots.{Slots}
use Rattle.std.proofs.lemmas.List.{get_or-map, get_or_append_left, get_or_push, length_push}
use Rattle.xet_hash.specs.HashForms.{hash_cmp}
use Rattle.hash_numbers.specs.Index.{Hash, hash_eq}
use Rattle.hash_numbers.specs.Steps.Places.{home_of, IsEntryOf, StandsIn}
use Rattle.hash_numbers.proofs.Entries.{value_at-none}
use Rattle.std.specs.Map.{keys_of}
use Rattle.std.proofs.lemmas.Map.Entries.{length-keys_of}
use Rattle.xet_hash.specs.FiniteMap.{value_at}
use Rattle.hash_numbers.proofs.Places.{stands-set}

-- a map compares two hashes that differ as different
not_at : (hash other : Hash) → hash_eq hash other ≡ false → is_at (hash_cmp hash) other ≡ false
not_at hash other apart = sym (texts_ties hash other) ∙ apart

-- what the search for a hash finds among these parts of slots
abbrev pub FindsBy : List ℕ → ℕ → BTreeMap Hash ℕ → Hash → ℕ → Type 0
FindsBy numbers mask overflow hash i = StandsIn numbers (home_of mask hash) i ⊎ (get hash_cmp overflow hash ≡ Some i)

-- where another's number is written over
pub finds-set : (numbers : List ℕ) (mask : ℕ) (overflow : BTreeMap Hash ℕ) (at number : ℕ) (other : Hash) (j : ℕ) → number ≢ 0 → slice_index numbers at ≢ j + 1
    → FindsBy numbers mask overflow other j → FindsBy (set numbers at number) mask overflow other j
finds-set numbers mask overflow at number other j some apart found = elim found [
  | inl stands ↦ inl (stands-set numbers (home_of mask other) j at number some apart stands)
  | inr is ↦ inr is
]

-- where the map has another value at another hash, or none
pub finds-update : (numbers : List ℕ) (mask : ℕ) (old new : BTreeMap Hash ℕ) (hash : Hash) (value : Option ℕ) (other : Hash) (j : ℕ) → hash_eq hash other ≡ false
    → Updates hash_cmp old new hash value → FindsBy numbers mask old other j → FindsBy numbers mask new other j
finds-update numbers mask old new hash value other j apart updates found = elim found [
  | inl stands ↦ inl stands
  | inr is ↦ inr (updates.2 other (not_at hash other apart) ∙ is)
]

-- where a map has the same entries
pub finds-unchanged : (numbers : List ℕ) (mask : ℕ) (old new : BTreeMap Hash ℕ) (other : Hash) (j : ℕ) → new.entries ≡ old.entries
    → FindsBy numbers mask old other j → FindsBy numbers mask new other j
finds-unchanged numbers mask old new other j same found = elim found [
  | inl stands ↦ inl stands
  | inr is ↦ inr (rw same is)
]

-- where the map has one more value, or is as it was
pub finds-insert : {T E : Type 0} (numbers : List ℕ) (mask : ℕ) (old new : BTreeMap Hash ℕ) (hash : Hash) (value : ℕ) (other : Hash) (j : ℕ) (result : Result T E)
    → hash_eq hash other ≡ false → OnOk result (Updates hash_cmp old new hash (Some value)) → OnErr result (new.entries ≡ old.entries)
    → FindsBy numbers mask old other j → FindsBy numbers mask new other j
finds-insert numbers mask old new hash value other j (Ok value_) apart updates unchanged found = finds-update numbers mask old new hash (Some value) other j apart updates found
finds-insert numbers mask old new hash value other j (Err error) apart updates unchanged found = finds-unchanged numbers mask old new other j unchanged found

-- a hash that isn't found has no value, where each entry is found
pub absent-value : {V T : Type 0} (F : Hash → ℕ → Type 0) (entries : List (Hash × V)) (hash : Hash) (result : Option T)
    → ((i : ℕ) → i < length (keys_of entries) → F (get_or (keys_of entries) i []) i)
    → IfNone result ((i : ℕ) → IsEntryOf entries i hash → F hash i → ⊥) → IfNone result (value_at hash_eq entries hash ≡ None)
absent-value F entries hash (Some value) found absent = tt
absent-value F entries hash None found absent = value_at-none entries hash (λ i has.
    absent i has (subst (λ (h : Hash). F h i) has.hash_is (found i (subst (λ n. i < n) (sym (length-keys_of entries)) has.inside))))

-- distinct hashes differ
apart-at : (hashes : List Hash) (i k : ℕ) → IsDistinct hash_eq hashes → i < length hashes → k < length hashes → k ≢ i → hash_eq (get_or hashes i []) (get_or hashes k []) ≡ false
apart-at hashes i k once inside inside' differs = elim (cases_lt i k) [
  | inl below ↦ apart_from_distinct hash_eq hashes i k [] once below inside'
  | inr above ↦
      let below : k < i = lt-of-le-of-ne k i above differs in
      nat_list_eq_equiv.symm (get_or hashes i []) (get_or hashes k []) ∙ apart_from_distinct hash_eq hashes k i [] once below inside
]
  where
    lt-of-le-of-ne : (k i : ℕ) → k ≤ i → k ≢ i → k < i
    lt-of-le-of-ne k i le ne = omega arith

-- one more hash is found, where those before it still are
pub place-next : (F G : Hash → ℕ → Type 0) (hashes : List Hash) (i : ℕ) (hash : Hash) → IsDistinct hash_eq hashes → i < length hashes → get_or hashes i [] ≡ hash
    → ((other : Hash) (j : ℕ) → j < i → hash_eq hash other ≡ false → F other j → G other j) → G hash i
    → ((j : ℕ) → j < i → F (get_or hashes j []) j) → (j : ℕ) → j < i + 1 → G (get_or hashes j []) j
place-next F G hashes i hash once inside is others placed found =
    below_more (λ j. G (get_or hashes j []) j) i
    (λ j below. others (get_or hashes j []) j below
    (subst (λ (h : Hash). hash_eq h (get_or hashes j []) ≡ false) is (apart-at hashes i j once inside (lt_trans j i (length hashes) below inside) (ne_of_lt j i below)))
    (found j below))
    (subst (λ (h : Hash). G h i) (sym is) placed)
  where
    lt_trans : (j i n : ℕ) → j < i → i < n → j < n
    lt_trans j i n below inside = omega arith

    ne_of_lt : (j i : ℕ) → j < i → j ≢ i
    ne_of_lt j i below = λ is. omega arith

module _ (F H : Hash → ℕ → Type 0) (hashes rest : List Hash) (i : ℕ) (hash : Hash) (moves : MovesLast hashes i rest) (is : get_or hashes i [] ≡ hash)
    (taken : (other : Hash) (j : ℕ) → j ≢ i → hash_eq hash other ≡ false → F other j → H other j)
    (found : (j : ℕ) → j < length hashes → F (get_or hashes j []) j) where
  -- the hashes are found but for one
  taken-found : (k : ℕ) → k < length hashes → k ≢ i → H (get_or hashes k []) k
  taken-found k inside differs =
      taken (get_or hashes k []) k differs
      (subst (λ (h : Hash). hash_eq h (get_or hashes k []) ≡ false) is (apart-at hashes i k moves.distinct moves.inside inside differs))
      (found k inside)

  -- where that is the last
  pub last-taken : i ≡ length rest → (k : ℕ) → k < length rest → H (get_or rest k []) k
  last-taken last k inside =
      subst (λ (h : Hash). H h k) (sym (moves.others k (λ same. omega arith) inside))
      (taken-found k (omega (arith, moves.shorter)) (λ same. omega arith))

  -- where the last gets its index
  pub last-moved : (G : Hash → ℕ → Type 0) (moved : Hash) (last : ℕ) → last ≡ length rest → i ≢ last → get_or hashes last [] ≡ moved → (H moved last → G moved i)
      → ((other : Hash) (j : ℕ) → j ≢ last → hash_eq moved other ≡ false → H other j → G other j) → (k : ℕ) → k < length rest → G (get_or rest k []) k
  last-moved G moved last last_is differs moved_is to others k inside = elim (cases_eq k i) [
    | inl same ↦
        let here : i < length rest = omega arith in
        let at : get_or rest i [] ≡ moved = moves.last here ∙ ap (λ n. get_or hashes n []) (sym last_is) ∙ moved_is in
        let mid : H moved last = subst (λ (h : Hash). H h last) moved_is (taken-found last (omega (arith, moves.shorter)) (λ e. differs (sym e))) in
        subst (λ n. G (get_or rest n []) n) (sym same) (subst (λ (h : Hash). G h i) (sym at) (to mid))
    | inr ne ↦
        let whole : k < length hashes = omega (arith, moves.shorter) in
        let within : last < length hashes = omega (arith, moves.shorter) in
        let other : k ≢ last = λ e. omega arith in
        subst (λ (h : Hash). G h k) (sym (moves.others k ne inside))
        (others (get_or hashes k []) k other
        (subst (λ (h : Hash). hash_eq h (get_or hashes k []) ≡ false) moved_is (apart-at hashes last k moves.distinct within whole other))
        (taken-found k whole ne))
  ]

-- what follows from what holds of a success
pub on_ok : {T E P Q : Type 0} (result : Result T E) → (P → Q) → OnOk result P → OnOk result Q
on_ok (Ok value) follows holds = follows holds
on_ok (Err error) follows holds = tt

-- one more hash at the end is found, and those before it still are
pub last-found : (F G : Hash → ℕ → Type 0) (hashes : List Hash) (hash : Hash) (count : ℕ) → length hashes ≡ count → IsDistinct hash_eq (hashes ++ hash ∷ [])
    → ((other : Hash) (j : ℕ) → j < count → hash_eq hash other ≡ false → F other j → G other j) → G hash count
    → ((j : ℕ) → j < length hashes → F (get_or hashes j []) j) → (j : ℕ) → j < length (hashes ++ hash ∷ []) → G (get_or (hashes ++ hash ∷ []) j []) j
last-found F G hashes hash count long once others placed found j inside =
    let longer : length (hashes ++ hash ∷ []) ≡ count + 1 = length_push hashes hash ∙ ap (λ n. n + 1) long in
    place-next F G (hashes ++ hash ∷ []) count hash once (omega arith) (get_or_push hashes hash [] count long) others placed
    (λ k below. let here : k < length hashes = omega arith in
    subst (λ (h : Hash). F h k) (sym (get_or_append_left hashes (hash ∷ []) [] k here)) (found k here))
    j (omega arith)

-- the first hashes are found where all are
pub first-found : {A : Type 0} (hashes : List Hash) (hash : Hash) (slots : Option (Slots A)) → AreFound (hashes ++ hash ∷ []) slots → AreFound hashes slots
first-found hashes hash None found = absurd (some_more (length (hashes ++ hash ∷ [])) (length hashes) (length_push hashes hash) (ap length found))
  where
    some_more : (n m : ℕ) → n ≡ m + 1 → n ≡ 0 → ⊥
    some_more n m is none = omega arith
first-found hashes hash (Some slots) found = λ i inside.
    subst (λ (h : Hash). Finds slots h i) (get_or_append_left hashes (hash ∷ []) [] i inside) (found i (subst (λ n. i < n) (sym (length_push hashes hash)) (lt_more i (length hashes) inside)))
  where
    lt_more : (i n : ℕ) → i < n → i < n + 1
    lt_more i n inside = omega arith

-- the keys of the other entries, where one is taken out and the last takes its place
pub taken-keys : {V : Type 0} (entries rest : List (Hash × V)) (i count : ℕ) (d : Hash × V) → length entries ≡ count → IsDistinct hash_eq (keys_of entries) → i < length entries
    → length rest + 1 ≡ count
    → ((d : Hash × V) → i + 1 < count → get_or rest i d ≡ get_or entries (count - 1) d)
    → ((k : ℕ) (d : Hash × V) → k ≢ i → k + 1 < count → get_or rest k d ≡ get_or entries k d)
    → MovesLast (keys_of entries) i (keys_of rest)
taken-keys {V} entries rest i count d long once inside shorter last others =
    let keys : length (keys_of entries) ≡ length entries = length-keys_of entries in
    let keys' : length (keys_of rest) ≡ length rest = length-keys_of rest in
    let first = λ (entry : Hash × V). entry.0 in
    record {
      distinct = once;
      inside = omega arith;
      shorter = omega arith;
      last = λ here.
          let at : count - 1 ≡ length (keys_of rest) = omega arith in
          let in_rest : i < length rest = omega arith in
          let in_entries : count - 1 < length entries = omega arith in
          let below : i + 1 < count = omega arith in
          get_or-map first rest i d [] in_rest ∙ ap first (last d below) ∙ sym (get_or-map first entries (count - 1) d [] in_entries)
          ∙ ap (λ n. get_or (keys_of entries) n []) at;
      others = λ k differs here.
          let in_rest : k < length rest = omega arith in
          let in_entries : k < length entries = omega arith in
          let below : k + 1 < count = omega arith in
          get_or-map first rest k d [] in_rest ∙ ap first (others k d differs below) ∙ sym (get_or-map first entries k d [] in_entries);
    }
