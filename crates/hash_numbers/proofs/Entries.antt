-- Entries of a table: one is found, put at the end, or taken out.
use Rattle.std.proofs.Common.{◌≡◌, ◌<◌, ◌≤◌, ℕ, Bool, true, false, List, [], ◌∷◌, ◌++◌, get_or, length, take, drop, refl, sym, ap, subst, ◌∙◌, IsPermutation, arith}
use Rattle.std.specs.Prelude.{Option, Some, None, cond, is_some}
use Rattle.std.specs.Cmp.Lexicographic.{same_text}
use Rattle.std.specs.List.{IsDistinct}
use Rattle.std.specs.Map.{keys_of}
use Rattle.std.proofs.lemmas.Bool.{true≢false}
use Rattle.std.proofs.lemmas.Cmp.{nat_list_eq_equiv}
use Rattle.std.proofs.lemmas.List.{get_or-map, map_push, take_all, drop_all}
use Rattle.std.proofs.lemmas.List.Sorted.{Contains-permutation, IsPermutation-map, IsPermutation-sym}
use Rattle.std.proofs.lemmas.Map.{lookup-insert, lookup-none, none_passes_from_lookup}
use Rattle.std.proofs.lemmas.Map.Entries.{lookup_from_place, none_past_head, place_from_lookup}
use Rattle.std.proofs.lemmas.Map.Keys.{IsDistinct-IsPermutation, IsDistinct-push, IsDistinct-tail}
use Rattle.std.proofs.lemmas.Map.Made.{is_some-lookup}
use Rattle.std.proofs.lemmas.Map.Views.{Contains-from_lookup, lookup-from_Contains}
use Rattle.std.proofs.lemmas.Option.{slice_get-get_or, slice_get_within, get_or_from_slice_get}
use Rattle.xet_hash.specs.FiniteMap.{value_at, IsFiniteMap, Sets}
use Rattle.hash_numbers.specs.Index.{Hash, hash_eq}
use Rattle.hash_numbers.specs.Steps.Places.{IsEntryOf}

le_refl : (n : ℕ) → n ≤ n
le_refl n = omega arith

exact : (first second : Hash) → hash_eq first second ≡ true → first ≡ second
exact first second same = same_text first second (sym same)

pub none : {V : Type 0} (found : Option V) → is_some found ≡ false → found ≡ None
none None is = refl
none (Some value) is = absurd (true≢false is)

module _ {V : Type 0} where
  key_at_index : (entries : List (Hash × V)) (i : ℕ) (entry : Hash × V) → i < length entries → entry ≡ get_or entries i entry → get_or (keys_of entries) i [] ≡ entry.0
  key_at_index entries i entry inside is = get_or-map (λ (e : Hash × V). e.0) entries i entry [] inside ∙ ap (λ (e : Hash × V). e.0) (sym is)

  -- the entry of a hash has its value
  pub value_at-entry : (entries : List (Hash × V)) (i : ℕ) (hash : Hash) (entry : Hash × V) → IsFiniteMap hash_eq entries → IsEntryOf entries i hash
      → entry ≡ get_or entries i entry → value_at hash_eq entries hash ≡ Some entry.1
  value_at-entry entries i hash entry once has is =
      subst (λ (key : Hash). value_at hash_eq entries key ≡ Some entry.1) (sym (key_at_index entries i entry has.inside is) ∙ has.hash_is)
      (lookup_from_place nat_list_eq_equiv entries i entry.0 entry.1 once (slice_get-get_or entries i entry has.inside ∙ ap Some (sym is)))

  -- a hash without an entry has no value
  pub value_at-none : (entries : List (Hash × V)) (hash : Hash) → ((i : ℕ) → IsEntryOf entries i hash → ⊥) → value_at hash_eq entries hash ≡ None
  value_at-none entries hash lacks = choose (value_at hash_eq entries hash) refl
    where
      choose : (found : Option V) → value_at hash_eq entries hash ≡ found → value_at hash_eq entries hash ≡ None
      choose None is = is
      choose (Some value) is =
          let at = place_from_lookup (hash_eq hash) entries value is in
          let inside = slice_get_within entries at.0 (at.1, value) at.2 in
          absurd (lacks at.0 (record {
            inside = inside;
            hash_is = key_at_index entries at.0 (at.1, value) inside (sym (get_or_from_slice_get entries at.0 (at.1, value) (at.1, value) at.2))
                ∙ sym (exact hash at.1 at.3);
          }))

  -- one more entry, of a hash that has none
  pub sets-push : (entries : List (Hash × V)) (hash : Hash) (value : V) → is_some (value_at hash_eq entries hash) ≡ false
      → Sets hash_eq entries hash (Some value) (entries ++ (hash, value) ∷ [])
  sets-push entries hash value lacks other =
      let at = length entries in
      let is : take at entries ++ (hash, value) ∷ drop at entries ≡ entries ++ (hash, value) ∷ []
      = ap (λ (l : List (Hash × V)). l ++ (hash, value) ∷ drop at entries) (take_all at entries (le_refl at))
      ∙ ap (λ (l : List (Hash × V)). entries ++ (hash, value) ∷ l) (drop_all at entries (le_refl at)) in
      ap (λ (l : List (Hash × V)). value_at hash_eq l other) (sym is)
      ∙ lookup-insert nat_list_eq_equiv hash value other entries at (none_passes_from_lookup (hash_eq hash) entries (none (value_at hash_eq entries hash) lacks))

  pub distinct-push : (entries : List (Hash × V)) (hash : Hash) (value : V) → IsFiniteMap hash_eq entries → is_some (value_at hash_eq entries hash) ≡ false
      → IsDistinct hash_eq (keys_of entries ++ hash ∷ [])
  distinct-push entries hash value once lacks =
      IsDistinct-push nat_list_eq_equiv (keys_of entries) hash once (sym (is_some-lookup (hash_eq hash) entries) ∙ lacks)

  pub keys-push : (entries : List (Hash × V)) (hash : Hash) (value : V) → keys_of (entries ++ (hash, value) ∷ []) ≡ keys_of entries ++ hash ∷ []
  keys-push entries hash value = map_push (λ (e : Hash × V). e.0) entries (hash, value)

  -- entries in another order
  lookup-moved : (first second : List (Hash × V)) → IsPermutation first second → IsFiniteMap hash_eq first → IsFiniteMap hash_eq second
      → (hash : Hash) → value_at hash_eq second hash ≡ value_at hash_eq first hash
  lookup-moved first second moves once once' hash = choose (value_at hash_eq first hash) (value_at hash_eq second hash) refl refl
    where
      choose : (there here : Option V) → value_at hash_eq first hash ≡ there → value_at hash_eq second hash ≡ here
          → value_at hash_eq second hash ≡ value_at hash_eq first hash
      choose (Some value) here is is' =
          lookup-from_Contains nat_list_eq_equiv hash value second once' (Contains-permutation first second (hash, value) moves (Contains-from_lookup exact hash value first is))
          ∙ sym is
      choose None None is is' = is' ∙ sym is
      choose None (Some value) is is' =
          is' ∙ sym (lookup-from_Contains nat_list_eq_equiv hash value first once
          (Contains-permutation second first (hash, value) (IsPermutation-sym first second moves) (Contains-from_lookup exact hash value second is')))

  -- an entry is taken out
  module _ (entries rest : List (Hash × V)) (entry : Hash × V) (moves : IsPermutation entries (entry ∷ rest)) (once : IsFiniteMap hash_eq entries) where
    once_first : IsFiniteMap hash_eq (entry ∷ rest)
    once_first =
        IsDistinct-IsPermutation hash_eq nat_list_eq_equiv.symm (keys_of entries) (keys_of (entry ∷ rest))
        (IsPermutation-map (λ (e : Hash × V). e.0) entries (entry ∷ rest) moves) once

    pub distinct-taken : IsFiniteMap hash_eq rest
    distinct-taken = IsDistinct-tail hash_eq entry.0 (keys_of rest) once_first

    pub sets-taken : Sets hash_eq entries entry.0 None rest
    sets-taken other = choose (hash_eq other entry.0) refl
      where
        whole : value_at hash_eq (entry ∷ rest) other ≡ value_at hash_eq entries other
        whole = lookup-moved entries (entry ∷ rest) moves once once_first other

        choose : (b : Bool) → hash_eq other entry.0 ≡ b → value_at hash_eq rest other ≡ cond (hash_eq entry.0 other) None (value_at hash_eq entries other)
        choose true same =
            lookup-none (hash_eq other) rest (none_past_head nat_list_eq_equiv other entry rest once_first same)
            ∙ sym (ap (λ b. cond b None (value_at hash_eq entries other)) (nat_list_eq_equiv.symm entry.0 other ∙ same))
        choose false apart =
            sym (ap (λ b. cond b (Some entry.1) (value_at hash_eq rest other)) apart)
            ∙ whole
            ∙ sym (ap (λ b. cond b None (value_at hash_eq entries other)) (nat_list_eq_equiv.symm entry.0 other ∙ apart))
