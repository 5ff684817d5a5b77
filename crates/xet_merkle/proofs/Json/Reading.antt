-- Reading JSON values: booleans, arrays of two, and what breaks the first rules.
use Rattle.std.proofs.Common.{◌≡◌, ℕ, Bool, List, [], ◌∷◌, length, map, Option, Some, None, option_and_then, is_some, true, false, refl, ap}
use Rattle.serde_json.specs.Data.{Data, null, boolean, number, string, array, object}
use Rattle.serde_json.specs.Find.{as_bool, as_array, as_object}
use Rattle.serde_json.specs.View.{view, items_of, items_view}
use Rattle.serde_json.specs.declared.value.Value.{Value}
use Rattle.level_nodes.proofs.Json.{items_of-injective, none_of, some_of}
use Rattle.xet_merkle.specs.JsonParts.{ReadsCounts, HasMembers, BreaksPartRule, no_object, no_members}

pub boolean-of : (member : Option Data) (truth : Bool) → option_and_then as_bool member ≡ Some truth → member ≡ Some (boolean truth)
boolean-of None truth e = cc
boolean-of (Some null) truth e = cc
boolean-of (Some (boolean other)) truth e = cc
boolean-of (Some (number n)) truth e = cc
boolean-of (Some (string s)) truth e = cc
boolean-of (Some (array items)) truth e = cc
boolean-of (Some (object entries)) truth e = cc

-- ---- an array of two

two_mapped : (values : List Value) (left right : Data) → map view values ≡ left ∷ right ∷ [] → length values ≡ 2
two_mapped [] left right e = cc
two_mapped (a ∷ []) left right e = cc
two_mapped (a ∷ b ∷ []) left right e = refl
two_mapped (a ∷ b ∷ c ∷ values) left right e = cc

pub two_counts : (value : Data) (values : List Value) (count : ℕ × ℕ) → as_array value ≡ Some (items_view values) → ReadsCounts value count → length values ≡ 2
two_counts value values count e h =
    let same : items_of (map view values) ≡ items_of (h.left ∷ h.right ∷ []) = cc (ap as_array h.two) in
    two_mapped values h.left h.right (items_of-injective (map view values) (h.left ∷ h.right ∷ []) same)

-- ---- what is no object, and what has no members

pub breaks_rule_1 : (json : Data) → is_some (as_object json) ≡ false → BreaksPartRule json 1
breaks_rule_1 json e = no_object (none_of (as_object json) e)

pub breaks_rule_2 : (json : Data) → is_some (as_object json) ≡ true →
    ((at_start at_end : Bool) (levels nodes : List Data) → HasMembers json at_start at_end levels nodes → ⊥) → BreaksPartRule json 2
breaks_rule_2 json e none = no_members (some_of (as_object json) e).1 none
