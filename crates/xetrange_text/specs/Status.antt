-- The numbers of the faults, and the fault for each reason that an input has no answer.
use Rattle.std.specs.Prelude.{◌≡◌, ℕ, Result, Ok, Err}
use Rattle.line_io.specs.declared.fault.AnswerFault.{AnswerFault}
use Rattle.line_io.specs.declared.fault.AnswerFault.TheVariants.{Input, Answer, Write as write_failed}
use Rattle.line_io.specs.declared.fault.Refusal.TheVariants.{Faulty, Memory as out_of_memory}
use Rattle.line_io.specs.declared.line_and_data.LongLine.{LongLine}
use Rattle.line_io.specs.declared.fault.InputFault.{InputFault}
use Rattle.line_io.specs.declared.fault.InputFault.TheVariants.{Line, Memory as input_memory, Read as read_failed}
use Rattle.pair_text.specs.declared.pair_fault.PairFault.{PairFault}
use Rattle.pair_text.specs.declared.pair_fault.PairFault.TheVariants.{Bad as bad_pair, Sizes as pair_sizes}
use Rattle.xetrange_text.specs.declared.fault.RangeFault.{RangeFault}
use Rattle.xetrange_text.specs.declared.fault.RangeFault.TheVariants.{BadLine, Sizes, Memory, Read, Write, BadRange, NoChunks as chunks_lacking, Mismatch as mismatch}
use Rattle.xetrange_text.specs.declared.fault.NoChunks.{NoChunks}
use Rattle.xetrange_text.specs.declared.fault.LineFault.{LineFault}
use Rattle.xetrange_text.specs.declared.fault.LineFault.TheVariants.{Bad, Sizes as passes_sizes, NoRange}

-- the number of a fault
abbrev pub status_of : RangeFault → ℕ
status_of (BadLine number) = 1
status_of (Sizes number) = 2
status_of Memory = 3
status_of Read = 4
status_of Write = 5
status_of (BadRange number rule) = 8
status_of chunks_lacking = 9
status_of mismatch = 10

-- the exit status of a call with this result
abbrev pub exit_status : Result (Unit {0}) RangeFault → ℕ
exit_status (Ok done) = 0
exit_status (Err fault) = status_of fault

-- a status is that of a call which ended this way
abbrev pub IsStatusOf : ℕ → (Result (Unit {0}) RangeFault → Type 0) → Type 0
IsStatusOf status Ended = (done : Result (Unit {0}) RangeFault) × (status ≡ exit_status done) × Ended done

-- the fault for the reason that the first line of an input, or the data after it, wasn't read
abbrev pub line_fault_of : InputFault LongLine → RangeFault
line_fault_of (Line number long) = BadLine number
line_fault_of input_memory = Memory
line_fault_of read_failed = Read

-- the fault for the reason that an input of pairs has no answer
abbrev pub make_fault_of : {T : Type 0} → AnswerFault PairFault T → RangeFault
make_fault_of (Input (Line number bad_pair)) = BadLine number
make_fault_of (Input (Line number pair_sizes)) = Sizes number
make_fault_of (Input input_memory) = Memory
make_fault_of (Input read_failed) = Read
make_fault_of (Answer refusal) = Memory
make_fault_of write_failed = Write

-- the fault for the reason that an input of pairs has no range proof
abbrev pub prove_fault_of : AnswerFault PairFault NoChunks → RangeFault
prove_fault_of (Input (Line number bad_pair)) = BadLine number
prove_fault_of (Input (Line number pair_sizes)) = Sizes number
prove_fault_of (Input input_memory) = Memory
prove_fault_of (Input read_failed) = Read
prove_fault_of (Answer (Faulty lacking)) = chunks_lacking
prove_fault_of (Answer out_of_memory) = Memory
prove_fault_of write_failed = Write

-- the fault for the reason that an input of ranges has no answer
abbrev pub range_fault_of : {T : Type 0} → AnswerFault LineFault T → RangeFault
range_fault_of (Input (Line number Bad)) = BadLine number
range_fault_of (Input (Line number passes_sizes)) = Sizes number
range_fault_of (Input (Line number (NoRange rule))) = BadRange number rule
range_fault_of (Input input_memory) = Memory
range_fault_of (Input read_failed) = Read
range_fault_of (Answer refusal) = Memory
range_fault_of write_failed = Write
