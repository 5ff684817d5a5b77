-- Texts in which no object has a member twice.
use Rattle.std.proofs.Common.{◌≡◌, List, ℕ, Option, Some, None, Result, Ok, Err, IfOk, refl, sym, subst}
use Rattle.std.specs.Prelude.{IsSomeAnd, IsUtf8}
use Rattle.json.specs.Json.{Json, document}
use Rattle.json.specs.Strict.{HasUniqueKeys}
use Rattle.json_text.specs.JsonText.{IsShallow}
use Rattle.serde_json.specs.Data.{Data}
use Rattle.serde_json.specs.Read.{read}
use Rattle.session_json.specs.Reading.{IsStrictText}

-- a value has no member twice, or it has one
pub not_both : (found : Option Json) → IsSomeAnd found (λ json. HasUniqueKeys json → ⊥) → IsSomeAnd found HasUniqueKeys → ⊥
not_both None twice unique = unique
not_both (Some json) twice unique = twice unique

found_json : (found : Option Json) → IsSomeAnd found HasUniqueKeys → (json : Json) × (found ≡ Some json) × HasUniqueKeys json
found_json None unique = elim unique [ ]
found_json (Some json) unique = (json, refl, unique)

pub strict : (text : List ℕ) (value : Data) → IsUtf8 text → IsShallow text → IsSomeAnd (document text) HasUniqueKeys → read text ≡ Some value → IsStrictText text value
strict text value utf8 shallow unique is =
    let found = found_json (document text) unique in
    record { utf8 = utf8; shallow = shallow; json = found.0; is_json = found.1; unique = found.2; value_is = is }

some_unique : (found : Option Json) (json : Json) → found ≡ Some json → HasUniqueKeys json → IsSomeAnd found HasUniqueKeys
some_unique None json is unique = let none : ⊥ = cc in absurd none
some_unique (Some other) json is unique = let same : other ≡ json = cc in subst HasUniqueKeys (sym same) unique

pub unique_of : (text : List ℕ) (value : Data) → IsStrictText text value → IsSomeAnd (document text) HasUniqueKeys
unique_of text value h = some_unique (document text) h.json h.is_json h.unique

-- what an answer says, and what follows from it
pub weaker : {X E : Type 0} (P Q : X → Type 0) → ((x : X) → P x → Q x) → (result : Result X E) → IfOk result P → IfOk result Q
weaker P Q follows (Ok x) h = follows x h
weaker P Q follows (Err e) h = tt
