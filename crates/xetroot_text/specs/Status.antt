-- The numbers of the faults, and the fault for each reason that an input has no answer.
use Rattle.std.specs.Prelude.{◌≡◌, ℕ, Result, Ok, Err}
use Rattle.line_io.specs.declared.fault.AnswerFault.{AnswerFault}
use Rattle.line_io.specs.declared.fault.AnswerFault.TheVariants.{Input, Answer, Write as write_failed}
use Rattle.line_io.specs.declared.fault.InputFault.TheVariants.{Line, Memory as input_memory, Read as read_failed}
use Rattle.line_io.specs.declared.fault.Refusal.TheVariants.{Faulty, Memory as out_of_memory}
use Rattle.xetroot_text.specs.declared.fault.Fault.{Fault}
use Rattle.xetroot_text.specs.declared.fault.Fault.TheVariants.{BadLine, Sizes, Memory, Read, Write, Overlap, Gap}
use Rattle.xetroot_text.specs.declared.fault.LineFault.{LineFault}
use Rattle.xetroot_text.specs.declared.fault.LineFault.TheVariants.{Bad, Overlap as overlaps, Sizes as passes_sizes}
use Rattle.xetroot_text.specs.declared.fault.Gap.{Gap as NoWhole}

-- the number of a fault
abbrev pub status_of : Fault → ℕ
status_of (BadLine number) = 1
status_of (Sizes number) = 2
status_of Memory = 3
status_of Read = 4
status_of Write = 5
status_of (Overlap number) = 6
status_of Gap = 7

-- the exit status of a call with this result
abbrev pub exit_status : Result (Unit {0}) Fault → ℕ
exit_status (Ok done) = 0
exit_status (Err fault) = status_of fault

-- a status is that of a call which ended this way
abbrev pub IsStatusOf : ℕ → (Result (Unit {0}) Fault → Type 0) → Type 0
IsStatusOf status Ended = (done : Result (Unit {0}) Fault) × (status ≡ exit_status done) × Ended done

-- the fault for the reason that an input has no answer
abbrev pub fault_of : AnswerFault LineFault NoWhole → Fault
fault_of (Input (Line number Bad)) = BadLine number
fault_of (Input (Line number overlaps)) = Overlap number
fault_of (Input (Line number passes_sizes)) = Sizes number
fault_of (Input input_memory) = Memory
fault_of (Input read_failed) = Read
fault_of (Answer (Faulty gap)) = Gap
fault_of (Answer out_of_memory) = Memory
fault_of write_failed = Write
