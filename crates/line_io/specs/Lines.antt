-- The lines of a text.
use Rattle.std.specs.Prelude.{◌≢◌, ℕ, ◌^◌, ◌==◌, if◌then◌else◌, List, [], ◌∷◌}

-- the byte 0A, which ends a line
abbrev pub newline : ℕ
newline = 10

-- some bytes have no newline
abbrev pub NoNewline : List ℕ → Type 0
NoNewline [] = Unit {0}
NoNewline (byte ∷ bytes) = (byte ≢ newline) × NoNewline bytes

abbrev pub onto_first : ℕ → List (List ℕ) → List (List ℕ)
onto_first byte [] = (byte ∷ []) ∷ []
onto_first byte (line ∷ lines) = (byte ∷ line) ∷ lines

-- the lines of a text, each with the newline that ends it; a last piece without a newline is a line unless it is empty
abbrev pub lines_of : List ℕ → List (List ℕ)
lines_of [] = []
lines_of (byte ∷ text) =
    if byte == newline then (byte ∷ []) ∷ lines_of text else onto_first byte (lines_of text)

-- a line without its newline
abbrev pub content : List ℕ → List ℕ
content [] = []
content (byte ∷ []) = if byte == newline then [] else byte ∷ []
content (byte ∷ next ∷ more) = byte ∷ content (next ∷ more)

-- the most bytes of an input
abbrev pub byte_limit : ℕ
byte_limit = 2 ^ 40
