-- What many machines find, each with a piece of a message.
use Rattle.std.specs.Prelude.{ℕ, ◌+◌, ◌-◌, List, [], ◌∷◌, ◌++◌, length, drop, map}
use Rattle.xet_chunker.specs.Candidates.{candidates}

-- the message that consists of some pieces
unfoldable pub joined : List (List ℕ) → List ℕ
joined [] = []
joined (piece ∷ pieces) = piece ++ joined pieces

-- the last 63 bytes before a piece, or all where there are fewer
abbrev pub near : List ℕ → List ℕ
near before = drop (length before - 63) before

-- the candidates that the machines find in the pieces after some bytes, as places of the message: each sees its piece and the bytes near
-- before it
unfoldable pub found_in : List ℕ → List (List ℕ) → List ℕ
found_in before [] = []
found_in before (piece ∷ pieces) =
    map (λ place. (length before - 63) + place) (candidates (near before ++ piece) (length (near before)) (length piece))
    ++ found_in (before ++ piece) pieces
