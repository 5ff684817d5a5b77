-- What the fault of a line after good ones means for the whole text.
use Rattle.std.proofs.Common.{◌≡◌, ℕ, ◌+◌, ◌≤◌, List, length, refl, inr}
use Rattle.std.specs.List.{concat}
use Rattle.upload_session.specs.Session.{Placed, IsWhole}
use Rattle.xet_roots.specs.Groups.{Node}
use Rattle.line_io.specs.Lines.{byte_limit, content, lines_of}
use Rattle.line_io.specs.Faults as line_io
use Rattle.line_io.specs.declared.fault.AnswerFault.{AnswerFault}
use Rattle.line_io.specs.declared.fault.AnswerFault.TheVariants.{Input, Answer, Write as write_failed}
use Rattle.line_io.specs.declared.fault.InputFault.TheVariants.{Line, Memory as input_memory, Read as read_failed}
use Rattle.line_io.specs.declared.fault.Refusal.{Refusal}
use Rattle.line_io.specs.declared.fault.Refusal.TheVariants.{Faulty, Memory as out_of_memory}
use Rattle.pair_text.specs.Lines.{SaysPair}
use Rattle.xetroot_text.specs.declared.fault.Fault.TheVariants.{Write}
use Rattle.xetroot_text.specs.declared.fault.LineFault.{LineFault}
use Rattle.xetroot_text.specs.declared.fault.LineFault.TheVariants.{Bad, Overlap, Sizes}
use Rattle.xetroot_text.specs.declared.fault.Gap.{Gap as NoWhole}
use Rattle.xetroot_text.specs.Status.{fault_of}
use Rattle.xetroot_text.specs.Answer.{AreGood, HasGap, IsLineFault, IsFaultOf}
use Rattle.xetroot_text.specs.Steps.PlacedPairs.{IsPairFault}
use Rattle.xetroot_text.proofs.GoodLines.{not_bad}

-- the fault of a pair that a line says
pub IsLineFault-pair : (before : List (List ℕ)) (pairs : List Placed) (next : ℕ) (line : List ℕ) (node : Node) (fault : LineFault)
    → length (concat before) + length line ≤ byte_limit → AreGood before pairs next → SaysPair (content line) node
    → IsPairFault pairs next node fault → IsLineFault before line fault
IsLineFault-pair before pairs next line node Bad within good says past = (pairs, next, good, inr (inr (node, says, past)))
IsLineFault-pair before pairs next line node Overlap within good says (low, taken) =
    (pairs, next, good, not_bad before next line node says low within, (node, says, taken))
IsLineFault-pair before pairs next line node Sizes within good says (low, free, past) =
    (pairs, next, good, not_bad before next line node says low within, (λ overlaps. free overlaps.2), (node, says, past))

-- or of one that is refused
pub IsLineFault-refused : (before : List (List ℕ)) (pairs : List Placed) (next : ℕ) (line : List ℕ) (node : Node) (refusal : Refusal LineFault)
    → length (concat before) + length line ≤ byte_limit → AreGood before pairs next → SaysPair (content line) node
    → line_io.IfFaulty refusal (IsPairFault pairs next node) → line_io.IfFaulty refusal (IsLineFault before line)
IsLineFault-refused before pairs next line node (Faulty fault) within good says is = IsLineFault-pair before pairs next line node fault within good says is
IsLineFault-refused before pairs next line node out_of_memory within good says is = tt

-- good lines without the positions below their number have a gap
pub gap-refused : (text : List ℕ) (pairs : List Placed) (next : ℕ) (refusal : Refusal NoWhole) → AreGood (lines_of text) pairs next
    → line_io.IfFaulty refusal (λ _. ¬ (IsWhole (length pairs) pairs)) → line_io.IfFaulty refusal (λ _. HasGap text)
gap-refused text pairs next (Faulty gap) good not_whole = (pairs, next, good, not_whole)
gap-refused text pairs next out_of_memory good h = tt

-- why an input has no answer is a fault of its text
pub IsFaultOf-input : (text : List ℕ) (of : AnswerFault LineFault NoWhole) → line_io.IsFaultOf IsLineFault (λ text _. HasGap text) text of
    → IsFaultOf text (fault_of of)
IsFaultOf-input text (Input (Line number Bad)) faulty = faulty
IsFaultOf-input text (Input (Line number Overlap)) faulty = faulty
IsFaultOf-input text (Input (Line number Sizes)) faulty = faulty
IsFaultOf-input text (Input input_memory) faulty = tt
IsFaultOf-input text (Input read_failed) faulty = tt
IsFaultOf-input text (Answer (Faulty gap)) faulty = faulty
IsFaultOf-input text (Answer out_of_memory) faulty = tt
IsFaultOf-input text write_failed faulty = tt

-- a failed write is one
pub write-only : (of : AnswerFault LineFault NoWhole) → fault_of of ≡ Write → of ≡ write_failed
write-only (Input (Line number Bad)) is = cc is
write-only (Input (Line number Overlap)) is = cc is
write-only (Input (Line number Sizes)) is = cc is
write-only (Input input_memory) is = cc is
write-only (Input read_failed) is = cc is
write-only (Answer (Faulty gap)) is = cc is
write-only (Answer out_of_memory) is = cc is
write-only write_failed is = refl
