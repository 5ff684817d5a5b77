-- What a finite map has after a value is written at a key, or put there as a new entry.
use Rattle.std.proofs.Common.{◌≡◌, Bool, true, false, List, [], ◌∷◌, map, refl, sym, ap, subst, ◌∙◌}
use Rattle.std.specs.Borrow.{MutBor}
use Rattle.std.specs.Prelude.{unwrap_or, IfOk, Result, Ok, Err, Option, Some, None, IsSome, is_some, MatchOption, cond}
use Rattle.std.specs.Cmp.{IsEquivalence}
use Rattle.std.specs.Option.{UnwrapsOrElse}
use Rattle.std.specs.List.{IsDistinct}
use Rattle.std.specs.List.Sorted.{IsPermutation}
use Rattle.std.specs.Map.{lookup_key, set_value}
use Rattle.std.proofs.lemmas.List.Sorted.{IsPermutation-map}
use Rattle.std.proofs.lemmas.Map.{NonePasses, lookup-set_value, none_passes_from_lookup}
use Rattle.std.proofs.lemmas.Map.Entries.{none_past_head}
use Rattle.passthrough_map.specs.declared.passthrough_hashmap.entry.Entry.{Entry}
use Rattle.passthrough_map.specs.declared.passthrough_hashmap.entry.OccupiedEntry.{OccupiedEntry}
use Rattle.passthrough_map.specs.declared.passthrough_hashmap.entry.VacantEntry.{VacantEntry}
use Rattle.passthrough_map.specs.Entry.{Occupied, Vacant, entry_map, entry_key, entry_value, IsLive}
use Rattle.passthrough_map.specs.FiniteMap.{key_at, value_at, IsFiniteMap, IsPut, Puts, Sets}

-- what holds of each value holds of the one that is there
MatchOption-there : {V : Type 0} (P : Type 0) (Q : V → Type 0) (found : Option V) → IsSome found → ((value : V) → Q value)
    → MatchOption found P Q
MatchOption-there P Q None there q = absurd (cc)
MatchOption-there P Q (Some value) there q = q value

-- a relation of two values that are equal to two others
pub at_both : {X Y : Type 0} (R : X → Y → Type 0) {x p : X} {y q : Y} → x ≡ p → y ≡ q → R p q → R x y
at_both R {p = p} {y = y} e f h = subst (λ a. R a y) (sym e) (subst (R p) (sym f) h)

-- a value that is there is the one, or else one of which P holds
pub UnwrapsOrElse-there : {V : Type 0} (P : V → Type 0) (found : Option V) (value : V) → found ≡ Some value → UnwrapsOrElse found P value
UnwrapsOrElse-there P found value there = subst (λ f. UnwrapsOrElse f P value) (sym there) refl

cond-twice : {V : Type 0} (b : Bool) (first second third : V) → cond b first (cond b second third) ≡ cond b first third
cond-twice true first second third = refl
cond-twice false first second third = refl

module _ {K V : Type 0} {eq : K → K → Bool} (laws : IsEquivalence eq) where
  pub Sets-set_value : (old : List (K × V)) (key : K) (value : V) → IsSome (value_at eq old key)
      → Sets eq old key (Some value) (set_value (eq key) old value)
  Sets-set_value old key value there other = lookup-set_value laws (eq key) (laws.congr key) other value old there

  -- what was written is there
  pub value_at-written : (old : List (K × V)) (key : K) (value : V) → IsSome (value_at eq old key)
      → value_at eq (set_value (eq key) old value) key ≡ Some value
  value_at-written old key value there =
      Sets-set_value old key value there key ∙ ap (λ b. cond b (Some value) (value_at eq old key)) (laws.refl key)

  -- a value that is written where one is, is put there
  pub IsPut-written : (old : List (K × V)) (key : K) (value : V) → IsSome (value_at eq old key)
      → IsPut eq old key value (set_value (eq key) old value)
  IsPut-written old key value there =
      record { sets = Sets-set_value old key value there; puts = MatchOption-there _ _ (value_at eq old key) there (λ _. refl) }

  -- an entry, with the value if its key is equal
  with_value : K → V → K × V → K × V
  with_value key value entry = cond (eq key entry.0) (entry.0, value) entry

  with_value-other : (key : K) (value : V) (entry : K × V) → eq key entry.0 ≡ false → with_value key value entry ≡ entry
  unfolding with_value
  with_value-other key value entry other = ap (λ b. cond b (entry.0, value) entry) other

  with_value-same : (key : K) (value : V) (entry : K × V) → eq key entry.0 ≡ true → with_value key value entry ≡ (entry.0, value)
  unfolding with_value
  with_value-same key value entry same = ap (λ b. cond b (entry.0, value) entry) same

  map-none : (key : K) (value : V) (entries : List (K × V)) → NonePasses (eq key) entries → map (with_value key value) entries ≡ entries
  map-none key value [] none = refl
  map-none key value (entry ∷ entries) none =
      let here = with_value-other key value entry none.0 in
      let others = map-none key value entries none.1 in
      ap (λ first. first ∷ map (with_value key value) entries) here ∙ ap (λ rest. entry ∷ rest) others

  -- the first entry changes if its key is equal, and else the others do
  set_value-head : (key : K) (value : V) (entry : K × V) (entries : List (K × V)) (b : Bool) → eq key entry.0 ≡ b
      → IsFiniteMap eq (entry ∷ entries)
      → set_value (eq key) entries value ≡ map (with_value key value) entries
      → cond b ((entry.0, value) ∷ entries) (entry ∷ set_value (eq key) entries value) ≡ map (with_value key value) (entry ∷ entries)
  set_value-head key value entry entries true same distinct others =
      sym (ap (λ first. first ∷ map (with_value key value) entries) (with_value-same key value entry same)
      ∙ ap (λ rest. (entry.0, value) ∷ rest) (map-none key value entries (none_past_head laws key entry entries distinct same)))
  set_value-head key value entry entries false other distinct others =
      ap (λ rest. entry ∷ rest) others
      ∙ sym (ap (λ first. first ∷ map (with_value key value) entries) (with_value-other key value entry other))

  -- where no two keys are equal, a value that is written is written in each entry whose key is equal
  set_value-map : (key : K) (value : V) (entries : List (K × V)) → IsFiniteMap eq entries
      → set_value (eq key) entries value ≡ map (with_value key value) entries
  unfolding IsDistinct
  set_value-map key value [] distinct = refl
  set_value-map key value (entry ∷ entries) distinct =
      set_value-head key value entry entries (eq key entry.0) refl distinct (set_value-map key value entries distinct.1)

  -- a value that is written after another one, which was put where there was none, is put there
  pub IsPut-filled : (old mid : List (K × V)) (key : K) (first value : V) → value_at eq old key ≡ None
      → Sets eq old key (Some first) mid → Puts eq old key first mid → IsFiniteMap eq mid
      → IsPut eq old key value (set_value (eq key) mid value)
  IsPut-filled old mid key first value none sets puts distinct =
      let there : IsSome (value_at eq mid key) = ap is_some (sets key ∙ ap (λ b. cond b (Some first) (value_at eq old key)) (laws.refl key)) in
      let more : IsPermutation ((key, first) ∷ old) mid = subst (λ found. MatchOption found (IsPermutation ((key, first) ∷ old) mid) (λ _. mid ≡ set_value (eq key) old first)) none puts in
      let front : map (with_value key value) ((key, first) ∷ old) ≡ (key, value) ∷ old =
      ap (λ entry. entry ∷ map (with_value key value) old) (with_value-same key value (key, first) (laws.refl key))
      ∙ ap (λ rest. (key, value) ∷ rest) (map-none key value old (none_passes_from_lookup (eq key) old none)) in
      let written : IsPermutation ((key, value) ∷ old) (set_value (eq key) mid value) =
      subst (λ l. IsPermutation l (set_value (eq key) mid value)) front
      (subst (IsPermutation (map (with_value key value) ((key, first) ∷ old))) (sym (set_value-map key value mid distinct))
      (IsPermutation-map (with_value key value) ((key, first) ∷ old) mid more)) in
      record {
        sets = λ other. Sets-set_value mid key value there other
            ∙ ap (λ found. cond (eq key other) (Some value) found) (sets other)
            ∙ cond-twice (eq key other) (Some value) (Some first) (value_at eq old other);
        puts = subst (λ found. MatchOption found (IsPermutation ((key, value) ∷ old) (set_value (eq key) mid value)) (λ _. set_value (eq key) mid value ≡ set_value (eq key) old value)) (sym none) written;
      }

module _ {K V : Type 0} (test : K → Bool) where
  set_value_twice-head : (entry : K × V) (entries : List (K × V)) (first value : V) (b : Bool) → test entry.0 ≡ b
      → set_value test (set_value test entries first) value ≡ set_value test entries value
      → set_value test (set_value test (entry ∷ entries) first) value ≡ set_value test (entry ∷ entries) value
  set_value_twice-head entry entries first value true passes others = simp passes
  set_value_twice-head entry entries first value false fails others = simp fails (ap (λ rest. entry ∷ rest) others)

  -- a value that is written over another one
  pub set_value_twice : (entries : List (K × V)) (first value : V)
      → set_value test (set_value test entries first) value ≡ set_value test entries value
  set_value_twice [] first value = refl
  set_value_twice (entry ∷ entries) first value =
      set_value_twice-head entry entries first value (test entry.0) refl (set_value_twice entries first value)

  -- where there is no value there is no stored key
  lookup_key-none : (entries : List (K × V)) → NonePasses test entries → lookup_key test entries ≡ None
  lookup_key-none [] none = refl
  lookup_key-none (entry ∷ entries) none = simp (none.0) (lookup_key-none entries none.1)

-- the value at a place that has one, once it was written
module _ {K V A : Type 0} {eq : K → K → Bool} (laws : IsEquivalence eq) where
  pub IsPut-there : (place : Entry K V A) (occupied : OccupiedEntry K V A) → place ≡ Occupied occupied → IsLive eq place → (value : V)
      → IsPut eq (entry_map place).now (entry_key place) value (set_value (eq occupied.key) occupied.map.now value)
  IsPut-there place occupied is live value =
      subst (λ p. IsPut eq (entry_map p).now (entry_key p) value (set_value (eq occupied.key) occupied.map.now value)) (sym is)
      (IsPut-written laws occupied.map.now occupied.key value (subst (IsLive eq) is live))

  -- the key of a place that has no value
  pub vacant-key : (place : Entry K V A) (vacant : VacantEntry K V A) → place ≡ Vacant vacant → IsLive eq place
      → unwrap_or (key_at eq (entry_map place).now (entry_key place)) (entry_key place) ≡ vacant.key
  vacant-key place vacant is live =
      let none = none_passes_from_lookup (eq vacant.key) vacant.map.now (subst (IsLive eq) is live) in
      subst (λ p. unwrap_or (key_at eq (entry_map p).now (entry_key p)) (entry_key p) ≡ vacant.key) (sym is)
      (ap (λ found. unwrap_or found vacant.key) (lookup_key-none (eq vacant.key) vacant.map.now none))

  -- the value that was made for a place that had none
  pub UnwrapsOrElse-made : {E : Type 0} (place : Entry K V A) (vacant : VacantEntry K V A) → place ≡ Vacant vacant → IsLive eq place
      → (P : V → Type 0) (filled : Result (MutBor V) E) (value : V) → P value → IfOk filled (λ r. r.now ≡ value)
      → IfOk filled (λ r. UnwrapsOrElse (entry_value eq place) P r.now)
  UnwrapsOrElse-made place vacant is live P (Ok r) value made there =
      subst (λ found. UnwrapsOrElse found P r.now) (sym (ap (entry_value eq) is ∙ subst (IsLive eq) is live)) (subst P (sym there) made)
  UnwrapsOrElse-made place vacant is live P (Err e) value made there = there
