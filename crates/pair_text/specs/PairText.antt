-- A text of pairs in which no line names a position: its pairs in order, its answer and its faults.
use Rattle.std.specs.Prelude.{ℕ, ◌+◌, ◌^◌, ◌<◌, ◌≤◌, ◌⊎◌, List, [], ◌∷◌, length}
use Rattle.std.specs.List.{concat}
use Rattle.xet_roots.specs.Groups.{Node}
use Rattle.xet_roots.specs.Roots.{total_size}
use Rattle.line_io.specs.Lines.{byte_limit, content, lines_of}
use Rattle.pair_text.specs.declared.pair_fault.PairFault.{PairFault}
use Rattle.pair_text.specs.declared.pair_fault.PairFault.TheVariants.{Bad, Sizes}
use Rattle.pair_text.specs.Lines.{IsSeparator, IsPositionLine, SaysPair}
use Rattle.pair_text.specs.Output.{IsOutput}

-- no line names a position
abbrev pub NoPositions : List (List ℕ) → Type 0
NoPositions [] = Unit {0}
NoPositions (line ∷ lines) = ((position : ℕ) → ¬ (IsPositionLine (content line) position)) × NoPositions lines

-- what some lines say, none of which is bad: the pairs in order
pub data Say : List (List ℕ) → List Node → Type 0 where
  no_line : Say [] []
  separator : {line : List ℕ} {lines : List (List ℕ)} {pairs : List Node} →
      IsSeparator (content line) → Say lines pairs → Say (line ∷ lines) pairs
  pair : {line : List ℕ} {node : Node} {lines : List (List ℕ)} {pairs : List Node} →
      SaysPair (content line) node → Say lines pairs → Say (line ∷ lines) (node ∷ pairs)

-- lines that begin an input and aren't faulty: what they say, sizes that fit, and no byte past the limit
pub record AreGood (lines : List (List ℕ)) (pairs : List Node) : Type 0 where
  pub say : Say lines pairs
  pub fits : total_size pairs < 2 ^ 64
  pub within : length (concat lines) ≤ byte_limit

-- a line after good lines is bad: it contains the first byte past the limit, or it isn't a separator and says no pair
abbrev pub IsBad : List (List ℕ) → List ℕ → Type 0
IsBad before line =
    (byte_limit < length (concat before) + length line)
    ⊎ (¬ (IsSeparator (content line)) × ((node : Node) → ¬ (SaysPair (content line) node)))

-- with a line after good lines, which say these pairs, the sizes are more than 2 ^ 64 - 1
abbrev pub PassesSizes : List Node → List ℕ → Type 0
PassesSizes pairs line = (node : Node) × SaysPair (content line) node × (2 ^ 64 ≤ total_size pairs + node.1)

-- the fault of a line after good lines
abbrev pub IsLineFault : List (List ℕ) → List ℕ → PairFault → Type 0
IsLineFault before line Bad = (pairs : List Node) × AreGood before pairs × IsBad before line
IsLineFault before line Sizes = (pairs : List Node) × AreGood before pairs × ¬ (IsBad before line) × PassesSizes pairs line

-- the answer to a text without a faulty line
abbrev pub IsAnswer : List ℕ → List ℕ → Type 0
IsAnswer text output = (pairs : List Node) × AreGood (lines_of text) pairs × IsOutput pairs output
