-- Inserting pairs in turn leaves at each key the value of the last pair with that key, and stores the key of the first
-- one.
use Rattle.std.proofs.Common.{◌≡◌, ◌+◌, ◌<◌, ◌≤◌, ℕ, Bool, List, [], ◌∷◌, ◌++◌, get_or, length, take, sym, ap, subst, ◌∙◌}
use Rattle.std.specs.Prelude.{Some, None, cond}
use Rattle.std.specs.Cmp.{IsEquivalence}
use Rattle.std.specs.Map.{lookup}
use Rattle.std.specs.Option.{option_or}
use Rattle.std.proofs.lemmas.List.{reverse-append, take_all, take_more}
use Rattle.passthrough_map.specs.FiniteMap.{value_at, IsFiniteMap, IsMapOf, Puts, Sets}
use Rattle.passthrough_map.proofs.Map.StoredKeys.{key_at-put, lookup_key-append}

module _ {K V : Type 0} {eq : K → K → Bool} (laws : IsEquivalence eq) where
  -- the map of one more pair
  pub IsMapOf-put : (pairs : List (K × V)) (pair : K × V) (old new : List (K × V))
      → IsMapOf eq pairs old → Sets eq old pair.0 (Some pair.1) new → Puts eq old pair.0 pair.1 new → IsFiniteMap eq new
      → IsMapOf eq (pairs ++ pair ∷ []) new
  IsMapOf-put pairs pair old new of-old sets puts distinct = record {
    last_value = λ key.
        let flipped : cond (eq pair.0 key) (Some pair.1) (value_at eq old key) ≡ cond (eq key pair.0) (Some pair.1) (value_at eq old key) =
        ap (λ b. cond b (Some pair.1) (value_at eq old key)) (laws.symm pair.0 key) in
        sets key ∙ flipped
        ∙ ap (cond (eq key pair.0) (Some pair.1)) (of-old.last_value key)
        ∙ sym (ap (lookup (eq key)) (reverse-append pairs (pair ∷ [])));
    first_key = λ key.
        key_at-put laws old new pair.0 pair.1 puts distinct key
        ∙ ap (λ found. option_or found (cond (eq key pair.0) (Some pair.0) None)) (of-old.first_key key)
        ∙ sym (lookup_key-append (eq key) pairs pair);
    map = distinct;
  }

  -- the map of the first pairs, once the next one is put
  pub IsMapOf-next : (pairs : List (K × V)) (i : ℕ) (pair : K × V) (old new : List (K × V))
      → i < length pairs → get_or pairs i pair ≡ pair → IsMapOf eq (take i pairs) old
      → Sets eq old pair.0 (Some pair.1) new → Puts eq old pair.0 pair.1 new → IsFiniteMap eq new
      → IsMapOf eq (take (i + 1) pairs) new
  IsMapOf-next pairs i pair old new inside is of-old sets puts distinct =
      let more : take (i + 1) pairs ≡ take i pairs ++ pair ∷ [] =
      take_more pairs i pair inside ∙ ap (λ next. take i pairs ++ next ∷ []) is in
      subst (λ (front : List (K × V)). IsMapOf eq front new) (sym more) (IsMapOf-put (take i pairs) pair old new of-old sets puts distinct)

  pub IsMapOf-end : (pairs : List (K × V)) (i : ℕ) (entries : List (K × V))
      → length pairs ≤ i → IsMapOf eq (take i pairs) entries → IsMapOf eq pairs entries
  IsMapOf-end pairs i entries past =
      subst (λ (front : List (K × V)). IsMapOf eq front entries) (take_all i pairs past)
