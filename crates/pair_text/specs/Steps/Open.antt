-- What is kept of the line that is being read, and of the lines before it. Only private contracts and proofs use it.
use Rattle.std.specs.Prelude.{◌≡◌, ◌≢◌, ◌^◌, ◌<◌, ◌≤◌, ◌⊎◌, List, [], ◌∷◌, ◌++◌, ℕ, length, codes}
use Rattle.xet_hash.specs.Blake3Hasher.{Holds}
use Rattle.xet_hash.specs.Hash.{data_key}
use Rattle.line_io.specs.Lines.{NoNewline}
use Rattle.pair_text.specs.declared.said_lines.SaidLines.{SaidLines}
use Rattle.pair_text.specs.declared.open_line.OpenLine.{OpenLine}
use Rattle.pair_text.specs.declared.open_line.OpenLine.TheVariants.{Text, Chunk}

-- bytes that don't begin with a plus sign
abbrev pub NoPlus : List ℕ → Type 0
NoPlus [] = Unit {0}
NoPlus (byte ∷ bytes) = byte ≢ 43

-- an open line holds the line so far
abbrev pub IsOpenLine : OpenLine → List ℕ → Type 0
IsOpenLine (Text text) line = (text.items ≡ line) × NoPlus line
IsOpenLine (Chunk hasher) line = (bytes : List ℕ) × (line ≡ codes "+" ++ bytes) × Holds data_key hasher bytes

-- a line has more bytes than any line that isn't bad, without a chunk or with one
abbrev pub IsOverlong : List ℕ → Type 0
IsOverlong line = (NoPlus line × (85 < length line)) ⊎ (2 ^ 64 ≤ length line)

-- good lines were taken, and the beginning of a line
abbrev pub HasTaken : {T F : Type 0} → (T → List (List ℕ) → Type 0) → SaidLines T F → List (List ℕ) → List ℕ → Type 0
HasTaken stands_for lines before line = stands_for lines.said before × IsOpenLine lines.line line × NoNewline line
