-- An input of ranges that were made separately.
use Rattle.std.specs.Prelude.{ℕ, List, [], ◌∷◌, ◌++◌}
use Rattle.xetrange_text.specs.Answers.{IsMadeOf, IsJoinedOf}

-- an input has a line for each of some groups of adjacent pieces, in order: what `make` writes for a piece, or what
-- `join` writes for such an input of the group
pub data InputOf : List (List ℕ) → List ℕ → Type 0 where
  nothing : InputOf [] []
  made : {piece answer input : List ℕ} {pieces : List (List ℕ)} →
      IsMadeOf piece answer → InputOf pieces input → InputOf (piece ∷ pieces) (answer ++ input)
  joined : {group pieces : List (List ℕ)} {parts answer input : List ℕ} →
      InputOf group parts → IsJoinedOf parts answer → InputOf pieces input → InputOf (group ++ pieces) (answer ++ input)
