-- An array has no floats if none of its items has.
use Rattle.std.proofs.Common.{◌≡◌, List, [], ◌∷◌, Bool, false, ◌||◌, map, ap, refl, ◌∙◌}
use Rattle.serde_json.specs.Data.{Data, array}
use Rattle.serde_json.specs.View.{items_of}
use Rattle.serde_json.specs.Written.{has_float}

pub neither : (x y : Bool) → x ≡ false → y ≡ false → (x || y) ≡ false
neither x y no_x no_y = ap (λ (b : Bool). b || y) no_x ∙ no_y

pub array-no_float : {X : Type 0} (json : X → Data) → ((x : X) → has_float (json x) ≡ false) → (xs : List X) → has_float (array (items_of (map json xs))) ≡ false
array-no_float json none [] = refl
array-no_float json none (x ∷ xs) = neither (has_float (json x)) (has_float (array (items_of (map json xs)))) (none x) (array-no_float json none xs)
