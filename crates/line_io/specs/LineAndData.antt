-- The first line of an input, and the data after it.
use Rattle.std.specs.Prelude.{◌≡◌, ℕ, ◌==◌, if◌then◌else◌, List, [], ◌∷◌, ◌++◌, Option, Some, IfSome}
use Rattle.line_io.specs.Lines.{newline}

-- the bytes before the first newline of a text, or all if there is none
abbrev pub first_line : List ℕ → List ℕ
first_line [] = []
first_line (byte ∷ text) = if byte == newline then [] else byte ∷ first_line text

-- the bytes after the first newline of a text
abbrev pub after_line : List ℕ → List ℕ
after_line [] = []
after_line (byte ∷ text) = if byte == newline then text else after_line text

-- of an input, the first line and some data after it were read; `left` is what the reader has left
abbrev pub HasRead : List ℕ → List ℕ → Option (List ℕ) → Option (List ℕ) → Type 0
HasRead line bytes input left =
    IfSome input (λ text. (rest : List ℕ) × (left ≡ Some rest) × (first_line text ≡ line) × (after_line text ≡ bytes ++ rest))
