-- How far a reading of an input has come. Only private contracts and proofs use it.
use Rattle.std.specs.Prelude.{◌≡◌, ◌↔◌, ℕ, ◌+◌, ◌<◌, ◌≤◌, IsTrue, List, ◌++◌, length}
use Rattle.std.specs.List.{concat}
use Rattle.line_io.specs.declared.fault.InputFault.{InputFault}
use Rattle.line_io.specs.declared.fault.InputFault.TheVariants.{Line, Memory}
use Rattle.line_io.specs.declared.fault.Refusal.{Refusal}
use Rattle.line_io.specs.declared.fault.Refusal.TheVariants.{Faulty, Memory as out_of_memory}
use Rattle.line_io.specs.declared.reading.Reading.{Reading}
use Rattle.line_io.specs.Lines.{NoNewline, lines_of, byte_limit}

-- some bytes begin with whole lines, followed by the open line of this number
pub record StandsAt (text : List ℕ) (before : List (List ℕ)) (number : ℕ) (line : List ℕ) : Type 0 where
  pub lines : (rest : List ℕ) → lines_of (text ++ rest) ≡ before ++ lines_of (line ++ rest)
  pub bytes : length text ≡ length (concat before) + length line
  pub few : length before ≤ length text
  pub number_is : number ≡ length before + 1
  pub is_open : NoNewline line

-- a reading has taken a text
pub record IsTaken {L F : Type 0} (has_taken : L → List (List ℕ) → List ℕ → Type 0) (reading : Reading L F) (text : List ℕ) : Type 0 where
  pub before : List (List ℕ)
  pub line : List ℕ
  pub taken : has_taken reading.lines before line
  pub stands_at : StandsAt text before reading.number line
  pub begun : IsTrue reading.begun ↔ (0 < length line)
  pub count_is : reading.count ≡ length text
  pub within : length text ≤ byte_limit

-- the fault if the line of a number is refused
abbrev pub fault_at : {F : Type 0} → ℕ → Refusal F → InputFault F
fault_at number (Faulty fault) = Line number fault
fault_at number out_of_memory = Memory
