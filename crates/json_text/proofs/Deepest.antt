-- How deep a text is nested from a place on.
use Rattle.std.proofs.Common.{arith, ◌≤◌, ℕ, List, [], ◌∷◌}
use Rattle.json_text.specs.Nesting.{deepest}
use Rattle.json_text.specs.declared.nesting.Place.{Place}

pub already_open : (at : Place × ℕ) (bytes : List ℕ) → at.1 ≤ deepest at bytes
already_open at [] = omega arith
already_open at (byte ∷ bytes) = omega arith
