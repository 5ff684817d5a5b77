-- Why an input has no answer.
use Rattle.std.specs.Prelude.{◌≡◌, ℕ, ◌+◌, List, ◌∷◌, ◌++◌, length}
use Rattle.line_io.specs.Lines.{lines_of}
use Rattle.line_io.specs.declared.fault.Refusal.{Refusal}
use Rattle.line_io.specs.declared.fault.Refusal.TheVariants.{Faulty, Memory as out_of_memory}
use Rattle.line_io.specs.declared.fault.InputFault.{InputFault}
use Rattle.line_io.specs.declared.fault.InputFault.TheVariants.{Line, Memory, Read}
use Rattle.line_io.specs.declared.fault.AnswerFault.{AnswerFault}
use Rattle.line_io.specs.declared.fault.AnswerFault.TheVariants.{Input, Answer, Write}

-- P holds of the fault; for a failed allocation nothing is required
abbrev pub IfFaulty : {F : Type 0} → Refusal F → (F → Type 0) → Type 0
IfFaulty (Faulty fault) P = P fault
IfFaulty out_of_memory P = Unit {0}

-- P holds of the line number and the fault; for a failed allocation or read nothing is required
abbrev pub IfLine : {F : Type 0} → InputFault F → (ℕ → F → Type 0) → Type 0
IfLine (Line number fault) P = P number fault
IfLine Memory P = Unit {0}
IfLine Read P = Unit {0}

-- the first faulty line of a text has this number, from 1, and this fault; the lines before it are good
abbrev pub HasFault : {F : Type 0} → (List (List ℕ) → List ℕ → F → Type 0) → List ℕ → ℕ → F → Type 0
HasFault is_fault text number fault = (before : List (List ℕ)) × (line : List ℕ) × (after : List (List ℕ))
    × (lines_of text ≡ before ++ line ∷ after) × (number ≡ length before + 1) × is_fault before line fault

-- the fault is that of a line of the text, or of the text; an allocation, a read and a write can fail for any text
abbrev pub IsFaultOf : {F T : Type 0} → (List (List ℕ) → List ℕ → F → Type 0) → (List ℕ → T → Type 0) → List ℕ → AnswerFault F T → Type 0
IsFaultOf is_line_fault is_fault text (Input fault) = IfLine fault (HasFault is_line_fault text)
IsFaultOf is_line_fault is_fault text (Answer refusal) = IfFaulty refusal (is_fault text)
IsFaultOf is_line_fault is_fault text Write = Unit {0}
