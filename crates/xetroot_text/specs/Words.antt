-- What the words of the program's arguments request.
use Rattle.std.specs.Prelude.{◌≡◌, ℕ, ◌⊎◌, List, []}
use Rattle.line_io.specs.Requests.{AskForHelp, AskForVersion}

-- there is no word, or there is one and the program knows it
abbrev pub AreKnown : List (List ℕ) → Type 0
AreKnown words = (words ≡ []) ⊎ (AskForHelp words ⊎ AskForVersion words)
