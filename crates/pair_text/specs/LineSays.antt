-- Which lines a value of the type `Line` stands for.
use Rattle.std.specs.Prelude.{ℕ, List}
use Rattle.xet_roots.specs.Groups.{Node}
use Rattle.line_io.specs.Lines.{content}
use Rattle.pair_text.specs.declared.line.Line.{Line}
use Rattle.pair_text.specs.declared.line.Line.TheVariants.{Separator, Position, Pair}
use Rattle.pair_text.specs.Lines.{IsSeparator, IsPositionLine, SaysPair}

-- a line's content says this
abbrev pub Says : List ℕ → Line → Type 0
Says line Separator = IsSeparator line
Says line (Position position) = IsPositionLine line position
Says line (Pair node) = SaysPair line node

-- a line isn't a separator or a position line, and says no pair
abbrev pub SaysNothing : List ℕ → Type 0
SaysNothing line =
    ¬ (IsSeparator (content line)) × ((position : ℕ) → ¬ (IsPositionLine (content line) position))
    × ((node : Node) → ¬ (SaysPair (content line) node))
