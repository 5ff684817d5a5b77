-- Which of equal keys a finite map stores: the one that was put there first.
use Rattle.std.proofs.Common.{arith, ◌≡◌, ◌+◌, ◌<◌, ◌⊎◌, inl, inr, ℕ, suc, zero, Bool, true, false, List, [], ◌∷◌, ◌++◌, length, refl, sym, ap, subst, ◌∙◌}
use Rattle.std.specs.Prelude.{Option, Some, None, MatchOption, cond, slice_index_or, unwrap_or, is_some}
use Rattle.std.specs.Cmp.{IsEquivalence}
use Rattle.std.specs.List.{Contains, IsDistinct, AllByRecursion}
use Rattle.std.specs.List.Sorted.{IsPermutation}
use Rattle.std.specs.Map.{keys_of, lookup, lookup_key, set_value}
use Rattle.std.specs.Option.{option_or}
use Rattle.std.proofs.lemmas.Bool.{true≢false}
use Rattle.std.proofs.lemmas.List.Sorted.{Contains-permutation, IsPermutation-map, IsPermutation-sym}
use Rattle.std.proofs.lemmas.Map.Keys.{IsDistinct-IsPermutation}
use Rattle.passthrough_map.specs.FiniteMap.{key_at, value_at, IsFiniteMap, Puts}

module _ {X : Type 0} where
  contains_at : (first : X) (others : List X) (x : X) (i : ℕ) → i < length (first ∷ others) → slice_index_or (first ∷ others) i x ≡ x
      → (first ≡ x) ⊎ Contains others x
  contains_at first others x zero inside is = inl is
  contains_at first others x (suc i) inside is = inr (i, omega (arith, inside), is)

  -- an element of a list is the first one or one of the others
  contains_cases : (first : X) (others : List X) (x : X) → Contains (first ∷ others) x → (first ≡ x) ⊎ Contains others x
  contains_cases first others x place = contains_at first others x place.0 place.1 place.2

  -- what holds of all elements holds of each
  all_contains : (P : X → Type 0) (xs : List X) (x : X) → AllByRecursion P xs → Contains xs x → P x
  all_contains P [] x all place = absurd (omega (arith, place.1))
  all_contains P (first ∷ others) x all place =
      elim (contains_cases first others x place) [
        | inl is ↦ subst P is all.0
        | inr later ↦ all_contains P others x all.1 later
      ]

is_some-cond : {X Y : Type 0} (b : Bool) (x : X) (y : Y) (o : Option X) (p : Option Y) → is_some o ≡ is_some p
    → is_some (cond b (Some x) o) ≡ is_some (cond b (Some y) p)
is_some-cond true x y o p same = refl
is_some-cond false x y o p same = same

module _ {X : Type 0} where
  -- `or` after a case distinction
  cond-or : (b : Bool) (x : X) (first second : Option X)
      → cond b (Some x) (option_or first second) ≡ option_or (cond b (Some x) first) second
  cond-or true x first second = refl
  cond-or false x first second = refl

  or-None : (found : Option X) → option_or found None ≡ found
  or-None None = refl
  or-None (Some x) = refl

  -- what is found once one more is there, which passes by b: the same, where what passes was there
  found-there : (b : Bool) (x : X) (old new : Option X) → new ≡ old → (b ≡ true → is_some old ≡ true)
      → new ≡ option_or old (cond b (Some x) None)
  found-there false x old new same there = same ∙ sym (or-None old)
  found-there true x None new same there = absurd (true≢false (sym (there refl)))
  found-there true x (Some found) new same there = same

  -- the one, where none that passes was there
  found-first : (b : Bool) (x : X) (old new : Option X) → new ≡ cond b (Some x) old → (b ≡ true → is_some old ≡ false)
      → new ≡ option_or old (cond b (Some x) None)
  found-first false x old new same none = same ∙ sym (or-None old)
  found-first true x None new same none = same
  found-first true x (Some found) new same none = absurd (true≢false (none refl))

module _ {K V : Type 0} (test : K → Bool) where
  lookup_key_contained-head : (entry : K × V) (entries : List (K × V)) (key : K) (b : Bool)
      → (lookup_key test entries ≡ Some key → Contains (keys_of entries) key)
      → cond b (Some entry.0) (lookup_key test entries) ≡ Some key → Contains (entry.0 ∷ keys_of entries) key
  lookup_key_contained-head entry entries key true later found = (0, omega arith, ap (λ o. unwrap_or o entry.0) found)
  lookup_key_contained-head entry entries key false later found =
      let place = later found in (place.0 + 1, omega (arith, place.1), grind (arith, place.2))

  -- a key that is found is one of the keys
  lookup_key_contained : (entries : List (K × V)) (key : K) → lookup_key test entries ≡ Some key → Contains (keys_of entries) key
  lookup_key_contained [] key found = absurd (cc)
  lookup_key_contained (entry ∷ entries) key found =
      lookup_key_contained-head entry entries key (test entry.0) (lookup_key_contained entries key) found

  lookup_key_passing-head : (entry : K × V) (entries : List (K × V)) (key : K) (b : Bool) → test entry.0 ≡ b
      → (lookup_key test entries ≡ Some key → test key ≡ true)
      → cond b (Some entry.0) (lookup_key test entries) ≡ Some key → test key ≡ true
  lookup_key_passing-head entry entries key true passes later found = sym (ap test (ap (λ o. unwrap_or o entry.0) found)) ∙ passes
  lookup_key_passing-head entry entries key false fails later found = later found

  -- a key that is found passes
  lookup_key_passing : (entries : List (K × V)) (key : K) → lookup_key test entries ≡ Some key → test key ≡ true
  lookup_key_passing [] key found = absurd (cc)
  lookup_key_passing (entry ∷ entries) key found =
      lookup_key_passing-head entry entries key (test entry.0) refl (lookup_key_passing entries key) found

  lookup_key-set_value-head : (set : K → Bool) (entry : K × V) (entries : List (K × V)) (value : V) (b : Bool)
      → lookup_key test (set_value set entries value) ≡ lookup_key test entries
      → lookup_key test (cond b ((entry.0, value) ∷ entries) (entry ∷ set_value set entries value)) ≡ lookup_key test (entry ∷ entries)
  lookup_key-set_value-head set entry entries value true later = refl
  lookup_key-set_value-head set entry entries value false later = ap (cond (test entry.0) (Some entry.0)) later

  -- a value that is written leaves the keys
  lookup_key-set_value : (set : K → Bool) (entries : List (K × V)) (value : V)
      → lookup_key test (set_value set entries value) ≡ lookup_key test entries
  lookup_key-set_value set [] value = refl
  lookup_key-set_value set (entry ∷ entries) value =
      lookup_key-set_value-head set entry entries value (set entry.0) (lookup_key-set_value set entries value)

  -- there is a key where there is a value
  is_some-lookup_key : (entries : List (K × V)) → is_some (lookup_key test entries) ≡ is_some (lookup test entries)
  is_some-lookup_key [] = refl
  is_some-lookup_key (entry ∷ entries) =
      is_some-cond (test entry.0) entry.0 entry.1 (lookup_key test entries) (lookup test entries) (is_some-lookup_key entries)

  -- tests that agree find the same key
  lookup_key-agree : (other : K → Bool) → ((key : K) → test key ≡ other key) → (entries : List (K × V))
      → lookup_key test entries ≡ lookup_key other entries
  lookup_key-agree other agree [] = refl
  lookup_key-agree other agree (entry ∷ entries) =
      ap (λ b. cond b (Some entry.0) (lookup_key test entries)) (agree entry.0)
      ∙ ap (cond (other entry.0) (Some entry.0)) (lookup_key-agree other agree entries)

  -- the key in one more pair is found where no earlier one is
  pub lookup_key-append : (pairs : List (K × V)) (pair : K × V)
      → lookup_key test (pairs ++ pair ∷ []) ≡ option_or (lookup_key test pairs) (cond (test pair.0) (Some pair.0) None)
  lookup_key-append [] pair = refl
  lookup_key-append (entry ∷ pairs) pair =
      ap (cond (test entry.0) (Some entry.0)) (lookup_key-append pairs pair)
      ∙ cond-or (test entry.0) entry.0 (lookup_key test pairs) (cond (test pair.0) (Some pair.0) None)

module _ {K V : Type 0} {eq : K → K → Bool} (laws : IsEquivalence eq) where
  key_at_contained-head : (entry : K × V) (entries : List (K × V)) (asked key : K) (b : Bool) → eq asked entry.0 ≡ b
      → eq entry.0 key ≡ false → eq asked key ≡ true → key_at eq entries asked ≡ Some key
      → cond b (Some entry.0) (key_at eq entries asked) ≡ Some key
  key_at_contained-head entry entries asked key true same other passes later =
      absurd (true≢false (sym passes ∙ laws.congr asked entry.0 key same ∙ other))
  key_at_contained-head entry entries asked key false same other passes later = later

  -- where no two keys are equal, a key that is equal to the one asked for is the one that is found
  key_at_contained : (entries : List (K × V)) (asked key : K) → IsFiniteMap eq entries → Contains (keys_of entries) key
      → eq asked key ≡ true → key_at eq entries asked ≡ Some key
  unfolding IsDistinct
  key_at_contained [] asked key distinct place passes = absurd (omega (arith, place.1))
  key_at_contained (entry ∷ entries) asked key distinct place passes =
      elim (contains_cases entry.0 (keys_of entries) key place) [
        | inl is ↦ ap (λ b. cond b (Some entry.0) (key_at eq entries asked)) (ap (eq asked) is ∙ passes) ∙ ap Some is
        | inr later ↦
            key_at_contained-head entry entries asked key (eq asked entry.0) refl (all_contains _ (keys_of entries) key distinct.0 later)
            passes (key_at_contained entries asked key distinct.1 later passes)
      ]

  key_at-permutation-found : (old new : List (K × V)) (asked : K) (in-old in-new : Option K)
      → key_at eq old asked ≡ in-old → key_at eq new asked ≡ in-new
      → IsPermutation old new → IsFiniteMap eq old → IsFiniteMap eq new → in-old ≡ in-new
  key_at-permutation-found old new asked None None is-old is-new moved distinct-old distinct-new = refl
  key_at-permutation-found old new asked (Some key) in-new is-old is-new moved distinct-old distinct-new =
      let place = Contains-permutation (keys_of old) (keys_of new) key (IsPermutation-map (λ e. e.0) old new moved) (lookup_key_contained (eq asked) old key is-old) in
      sym (key_at_contained new asked key distinct-new place (lookup_key_passing (eq asked) old key is-old)) ∙ is-new
  key_at-permutation-found old new asked None (Some key) is-old is-new moved distinct-old distinct-new =
      let place = Contains-permutation (keys_of new) (keys_of old) key (IsPermutation-map (λ e. e.0) new old (IsPermutation-sym old new moved)) (lookup_key_contained (eq asked) new key is-new) in
      sym is-old ∙ key_at_contained old asked key distinct-old place (lookup_key_passing (eq asked) new key is-new)

  -- the order of the entries doesn't matter
  key_at-permutation : (old new : List (K × V)) (asked : K) → IsPermutation old new → IsFiniteMap eq new
      → key_at eq old asked ≡ key_at eq new asked
  key_at-permutation old new asked moved distinct =
      let back = IsPermutation-map (λ e. e.0) new old (IsPermutation-sym old new moved) in
      key_at-permutation-found old new asked (key_at eq old asked) (key_at eq new asked) refl refl moved
      (IsDistinct-IsPermutation eq laws.symm (keys_of new) (keys_of old) back distinct) distinct

  -- whether a key is stored at two keys that are equal
  is_some-equal : (entries : List (K × V)) (asked key : K) → eq asked key ≡ true
      → is_some (key_at eq entries asked) ≡ is_some (value_at eq entries key)
  is_some-equal entries asked key same =
      ap is_some (lookup_key-agree (eq asked) (eq key) (λ other. laws.congr asked key other same) entries)
      ∙ is_some-lookup_key (eq key) entries

  key_at-put-found : (old new : List (K × V)) (key : K) (value : V) (asked : K) (found : Option V) → value_at eq old key ≡ found
      → MatchOption found (IsPermutation ((key, value) ∷ old) new) (λ _. new ≡ set_value (eq key) old value) → IsFiniteMap eq new
      → key_at eq new asked ≡ option_or (key_at eq old asked) (cond (eq asked key) (Some key) None)
  key_at-put-found old new key value asked None none moved distinct =
      found-first (eq asked key) key (key_at eq old asked) (key_at eq new asked)
      (sym (key_at-permutation ((key, value) ∷ old) new asked moved distinct))
      (λ same. is_some-equal old asked key same ∙ ap is_some none)
  key_at-put-found old new key value asked (Some before) there written distinct =
      found-there (eq asked key) key (key_at eq old asked) (key_at eq new asked)
      (ap (λ entries. key_at eq entries asked) written ∙ lookup_key-set_value (eq asked) (eq key) old value)
      (λ same. is_some-equal old asked key same ∙ ap is_some there)

  -- after a value was put at a key, that key is stored where no equal one was, and the others are as before
  pub key_at-put : (old new : List (K × V)) (key : K) (value : V) → Puts eq old key value new → IsFiniteMap eq new
      → (asked : K) → key_at eq new asked ≡ option_or (key_at eq old asked) (cond (eq asked key) (Some key) None)
  key_at-put old new key value puts distinct asked =
      key_at-put-found old new key value asked (value_at eq old key) refl puts distinct
