-- Reading the JSON value of a session: its lists, its runs and its hashes.
use Rattle.std.proofs.Common.{arith, ◌≡◌, ◌<◌, ◌≤◌, ℕ, List, [], ◌∷◌, get_or, length, map, Some, is_some, true, false, refl, sym, ap, subst, ◌∙◌}
use Rattle.std.specs.Prelude.{All}
use Rattle.std.proofs.lemmas.List.{get_or-map, length-map}
use Rattle.std.proofs.lemmas.List.Elements.{All-get_or}
use Rattle.serde_json.specs.Data.{Data, Items, array}
use Rattle.serde_json.specs.Find.{as_array, as_object}
use Rattle.serde_json.specs.View.{view, items_of, items_view}
use Rattle.serde_json.specs.declared.value.Value.{Value}
use Rattle.level_nodes.specs.NodeJson.{whole}
use Rattle.level_nodes.proofs.Json.{array-of, items_of-injective, none_of, some_of}
use Rattle.session_json.specs.Reading.{BreaksRule, no_object, no_lists, HasLists, IsRunValue, ReadsHash}

-- ---- what is no object, and what has no lists

pub breaks_rule_1 : (json : Data) → is_some (as_object json) ≡ false → BreaksRule json 1
breaks_rule_1 json e = no_object (none_of (as_object json) e)

pub breaks_rule_2 : (json : Data) → is_some (as_object json) ≡ true → ((runs hashes : List Data) → HasLists json runs hashes → ⊥) → BreaksRule json 2
breaks_rule_2 json e none = no_lists (some_of (as_object json) e).1 none

-- ---- runs

-- where all values are runs, each one is
pub run_at : (values : List Value) (i : ℕ) (value : Value) → i < length values → value ≡ get_or values i value
    → All IsRunValue (map view values) → IsRunValue (view value)
run_at values i value within is all =
    subst IsRunValue (get_or-map view values i value (view value) within ∙ ap view (sym is))
    (All-get_or IsRunValue (map view values) i (view value) (subst (λ n. i < n) (sym (length-map values view)) within) all)

-- ---- an array of four

four_mapped : (values : List Value) (a b c d : Data) → map view values ≡ a ∷ b ∷ c ∷ d ∷ [] → length values ≡ 4
four_mapped [] a b c d e = cc
four_mapped (v ∷ []) a b c d e = cc
four_mapped (v ∷ w ∷ []) a b c d e = cc
four_mapped (v ∷ w ∷ x ∷ []) a b c d e = cc
four_mapped (v ∷ w ∷ x ∷ y ∷ []) a b c d e = refl
four_mapped (v ∷ w ∷ x ∷ y ∷ z ∷ values) a b c d e = cc

pub four_words : (value : Data) (values : List Value) (hash : List ℕ) → as_array value ≡ Some (items_view values) → (h : ReadsHash value hash)
    → map view values ≡ h.a ∷ h.b ∷ h.c ∷ h.d ∷ []
four_words value values hash e h =
    let same : items_of (map view values) ≡ items_of (h.a ∷ h.b ∷ h.c ∷ h.d ∷ []) = cc (ap as_array h.four) in
    items_of-injective (map view values) (h.a ∷ h.b ∷ h.c ∷ h.d ∷ []) same

pub four_long : (value : Data) (values : List Value) (hash : List ℕ) → as_array value ≡ Some (items_view values) → ReadsHash value hash → length values ≡ 4
four_long value values hash e h = four_mapped values h.a h.b h.c h.d (four_words value values hash e h)

four_values : (values : List Value) (a b c d : Value) → 4 ≤ length values → length values < 5 → a ≡ get_or values 0 a → b ≡ get_or values 1 b
    → c ≡ get_or values 2 c → d ≡ get_or values 3 d → values ≡ a ∷ b ∷ c ∷ d ∷ []
four_values [] a b c d least most a_is b_is c_is d_is = absurd (omega arith)
four_values (v ∷ []) a b c d least most a_is b_is c_is d_is = absurd (omega arith)
four_values (v ∷ w ∷ []) a b c d least most a_is b_is c_is d_is = absurd (omega arith)
four_values (v ∷ w ∷ x ∷ []) a b c d least most a_is b_is c_is d_is = absurd (omega arith)
four_values (v ∷ w ∷ x ∷ y ∷ []) a b c d least most a_is b_is c_is d_is = cc
four_values (v ∷ w ∷ x ∷ y ∷ z ∷ values) a b c d least most a_is b_is c_is d_is = absurd (omega arith)

array_is : (value : Data) (items : Items) → as_array value ≡ Some items → value ≡ array items
array_is value items e = let found = array-of (Some value) items e in cc

pub reads_hash : (value : Value) (values shown : List Value) (a b c d : Value) (first second third fourth : ℕ) (hash : List ℕ)
    → as_array (view value) ≡ Some (items_view values) → shown ≡ values → 4 ≤ length shown → length shown < 5 → a ≡ get_or shown 0 a → b ≡ get_or shown 1 b
    → c ≡ get_or shown 2 c → d ≡ get_or shown 3 d → whole (view a) ≡ Some first → whole (view b) ≡ Some second → whole (view c) ≡ Some third
    → whole (view d) ≡ Some fourth → hash ≡ first ∷ second ∷ third ∷ fourth ∷ [] → ReadsHash (view value) hash
reads_hash value values shown a b c d first second third fourth hash e same least most a_is b_is c_is d_is first_is second_is third_is fourth_is hash_is =
    let four : values ≡ a ∷ b ∷ c ∷ d ∷ [] = sym same ∙ four_values shown a b c d least most a_is b_is c_is d_is in
    record {
      a = view a;
      b = view b;
      c = view c;
      d = view d;
      words = (first, second, third, fourth);
      four = array_is (view value) (items_view values) e ∙ ap (λ (values : List Value). array (items_view values)) four;
      a_is = first_is;
      b_is = second_is;
      c_is = third_is;
      d_is = fourth_is;
      hash_is = hash_is;
    }
