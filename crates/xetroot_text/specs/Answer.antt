-- The program's answer to its input.
use Rattle.std.specs.Prelude.{ℕ, ◌+◌, ◌-◌, ◌^◌, ◌<◌, ◌≤◌, ◌⊎◌, IsTrue, List, [], ◌∷◌, length, map, reverse}
use Rattle.std.specs.List.{concat}
use Rattle.xet_roots.specs.Groups.{Node}
use Rattle.xet_roots.specs.Roots.{total_size}
use Rattle.upload_session.specs.Session.{Placed, ArePlaced, IsWhole, chunks_of, is_taken}
use Rattle.line_io.specs.Lines.{byte_limit, content, lines_of}
use Rattle.line_io.specs.Faults.{HasFault}
use Rattle.pair_text.specs.Lines.{IsSeparator, IsPositionLine, SaysPair}
use Rattle.pair_text.specs.LineSays.{SaysNothing}
use Rattle.pair_text.specs.Output.{IsOutput}
use Rattle.xetroot_text.specs.declared.fault.Fault.{Fault}
use Rattle.xetroot_text.specs.declared.fault.Fault.TheVariants.{BadLine, Sizes, Memory, Read, Write, Overlap, Gap}
use Rattle.xetroot_text.specs.declared.fault.LineFault.{LineFault}
use Rattle.xetroot_text.specs.declared.fault.LineFault.TheVariants.{Bad, Overlap as overlaps, Sizes as passes_sizes}

-- what some lines say, none of which is bad, if the next pair has this position: the pairs at their positions, in the
-- order of the lines, and the position of a pair after them
pub data Say : ℕ → List (List ℕ) → List Placed → ℕ → Type 0 where
  no_line : {next : ℕ} → Say next [] [] next
  separator : {next last : ℕ} {line : List ℕ} {lines : List (List ℕ)} {placed : List Placed} →
      IsSeparator (content line) → Say next lines placed last → Say next (line ∷ lines) placed last
  position : {next named last : ℕ} {line : List ℕ} {lines : List (List ℕ)} {placed : List Placed} →
      IsPositionLine (content line) named → Say named lines placed last → Say next (line ∷ lines) placed last
  pair : {next last : ℕ} {line : List ℕ} {node : Node} {lines : List (List ℕ)} {placed : List Placed} →
      SaysPair (content line) node → next < 2 ^ 64 - 1 → Say (next + 1) lines placed last →
      Say next (line ∷ lines) ((next, node) ∷ placed) last

-- pairs in the order of lines, and the same in the order of positions, if none has a position that was taken
abbrev pub TakeOtherPositions : List Placed → List Placed → Type 0
TakeOtherPositions in_order by_position = ArePlaced (map (λ p. (p.0, p.1 ∷ [])) (reverse in_order)) by_position

-- lines that begin an input and aren't faulty: the pairs by position, and the position of a pair after them
pub record AreGood (lines : List (List ℕ)) (pairs : List Placed) (next : ℕ) : Type 0 where
  pub in_order : List Placed
  pub say : Say 0 lines in_order next
  pub apart : TakeOtherPositions in_order pairs
  pub fits : total_size (chunks_of pairs) < 2 ^ 64
  pub within : length (concat lines) ≤ byte_limit

-- a line after good lines is bad: it contains the first byte past the limit, or it says nothing, or it says a pair past
-- the last position
abbrev pub IsBad : List (List ℕ) → ℕ → List ℕ → Type 0
IsBad before next line =
    (byte_limit < length (concat before) + length line)
    ⊎ (SaysNothing line ⊎ ((node : Node) × SaysPair (content line) node × (2 ^ 64 - 1 ≤ next)))

-- it says a pair whose position is taken
abbrev pub Overlaps : List Placed → ℕ → List ℕ → Type 0
Overlaps pairs next line = (node : Node) × SaysPair (content line) node × IsTrue (is_taken pairs next)

-- with the pair that it says, the sizes are more than 2 ^ 64 - 1
abbrev pub PassesSizes : List Placed → List ℕ → Type 0
PassesSizes pairs line = (node : Node) × SaysPair (content line) node × (2 ^ 64 ≤ total_size (chunks_of pairs) + node.1)

-- the answer to a text without a faulty line, if the pairs have the positions below their number
abbrev pub IsAnswer : List ℕ → List ℕ → Type 0
IsAnswer text output =
    (pairs : List Placed) × (next : ℕ) × AreGood (lines_of text) pairs next × IsWhole (length pairs) pairs
    × IsOutput (chunks_of pairs) output

-- no line is faulty, and the pairs don't have the positions below their number
abbrev pub HasGap : List ℕ → Type 0
HasGap text = (pairs : List Placed) × (next : ℕ) × AreGood (lines_of text) pairs next × ¬ (IsWhole (length pairs) pairs)

-- the fault of a line after good lines
abbrev pub IsLineFault : List (List ℕ) → List ℕ → LineFault → Type 0
IsLineFault before line Bad = (pairs : List Placed) × (next : ℕ) × AreGood before pairs next × IsBad before next line
IsLineFault before line overlaps =
    (pairs : List Placed) × (next : ℕ) × AreGood before pairs next × ¬ (IsBad before next line) × Overlaps pairs next line
IsLineFault before line passes_sizes =
    (pairs : List Placed) × (next : ℕ) × AreGood before pairs next × ¬ (IsBad before next line) × ¬ (Overlaps pairs next line)
    × PassesSizes pairs line

-- the faults that come from the text; the others come from an allocation, a read or a write
abbrev pub IsOwn : Fault → Type 0
IsOwn (BadLine number) = Unit {0}
IsOwn (Overlap number) = Unit {0}
IsOwn (Sizes number) = Unit {0}
IsOwn Gap = Unit {0}
IsOwn Memory = ⊥
IsOwn Read = ⊥
IsOwn Write = ⊥

-- the fault of a text: that of its first faulty line, or a gap
abbrev pub IsFaultOf : List ℕ → Fault → Type 0
IsFaultOf text (BadLine number) = HasFault IsLineFault text number Bad
IsFaultOf text (Overlap number) = HasFault IsLineFault text number overlaps
IsFaultOf text (Sizes number) = HasFault IsLineFault text number passes_sizes
IsFaultOf text Gap = HasGap text
IsFaultOf text Memory = Unit {0}
IsFaultOf text Read = Unit {0}
IsFaultOf text Write = Unit {0}
