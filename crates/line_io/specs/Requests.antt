-- What the words of a program's arguments request.
use Rattle.std.specs.Prelude.{◌≡◌, ℕ, ◌⊎◌, List, [], ◌∷◌, Result, IsOkAnd, codes, drop, map, take}
use Rattle.std.specs.String.{string_bytes}
use Rattle.std.specs.Vec.Iter.{into_iter_items, into_iter_len}
use Rattle.std.specs.declared.string.String.{String}
use Rattle.std.specs.declared.vec.IntoIter.{IntoIter}
use Rattle.line_io.specs.declared.request.Request.{Request}
use Rattle.line_io.specs.declared.request.Request.TheVariants.{Nothing, Help, Version, Command, Unreadable}

-- some words that are still to be read. No contract of std says that there are as many as their length says, so these
-- are the words up to that length.
abbrev pub words_left : {A : Type 0} → IntoIter (String A) A → List (List ℕ)
words_left words = map string_bytes (take (into_iter_len words) (into_iter_items words))

-- the words after the first argument, which is the program's name
abbrev pub words_of : {A : Type 0} → IntoIter (String A) A → List (List ℕ)
words_of args = drop 1 (words_left args)

-- some arguments could be read, and have these words
abbrev pub HasWords : {A E : Type 0} → Result (IntoIter (String A) A) E → List (List ℕ) → Type 0
HasWords args words = IsOkAnd args (λ args. words_of args ≡ words)

-- some words request the help
abbrev pub AskForHelp : List (List ℕ) → Type 0
AskForHelp words = (words ≡ codes "-h" ∷ []) ⊎ (words ≡ codes "--help" ∷ [])

-- some words request the version
abbrev pub AskForVersion : List (List ℕ) → Type 0
AskForVersion words = words ≡ codes "--version" ∷ []

-- what some words request
abbrev pub AskFor : List (List ℕ) → Request → Type 0
AskFor words Nothing = words ≡ []
AskFor words Help = AskForHelp words
AskFor words Version = AskForVersion words
AskFor words (Command word rest) = (words ≡ string_bytes word ∷ words_left rest) × ¬ (AskForHelp words) × ¬ (AskForVersion words)
AskFor words Unreadable = ⊥
