-- The fault of a line, and the reason that an input has no answer, are faults of its text.
use Rattle.std.proofs.Common.{◌≡◌, ℕ, ◌+◌, ◌^◌, ◌≤◌, List, length, refl, sym, subst, arith}
use Rattle.std.specs.List.{concat}
use Rattle.xet_merkle.specs.Groups.{Node}
use Rattle.xet_merkle.specs.Roots.{total_size}
use Rattle.xet_merkle.specs.Subtree.{Subtree}
use Rattle.line_io.specs.Lines.{byte_limit, content}
use Rattle.line_io.specs.declared.fault.Refusal.{Refusal}
use Rattle.line_io.specs.declared.fault.Refusal.TheVariants.{Faulty, Memory as out_of_memory}
use Rattle.pair_text.specs.Lines.{SaysPair}
use Rattle.pair_text.specs.PairText.{AreGood}
use Rattle.pair_text.proofs.GoodPairs.{not_bad}
use Rattle.xetrange_text.specs.Ranges.{AreRanges}
use Rattle.line_io.specs.Faults as line_io
use Rattle.line_io.specs.declared.fault.AnswerFault.{AnswerFault}
use Rattle.line_io.specs.declared.fault.AnswerFault.TheVariants.{Input, Answer, Write as write_failed}
use Rattle.line_io.specs.declared.fault.InputFault.TheVariants.{Line, Memory as input_memory, Read as read_failed}
use Rattle.pair_text.specs.PairText as pair_text
use Rattle.pair_text.specs.declared.pair_fault.PairFault.{PairFault}
use Rattle.pair_text.specs.declared.pair_fault.PairFault.TheVariants.{Bad as bad_pair, Sizes as pair_sizes}
use Rattle.xetrange_text.specs.declared.fault.RangeFault.TheVariants.{Write}
use Rattle.xetrange_text.specs.declared.fault.NoChunks.{NoChunks}
use Rattle.xetrange_text.specs.declared.fault.LineFault.{LineFault}
use Rattle.xetrange_text.specs.declared.fault.LineFault.TheVariants.{Bad, Sizes, NoRange}
use Rattle.xetrange_text.specs.Status.{make_fault_of, prove_fault_of, range_fault_of}
use Rattle.xetrange_text.specs.Answers.{IsLineFault, IsMakeFaultOf, IsProveFaultOf, IsRangeFaultOf, LacksChunks}
use Rattle.xetrange_text.specs.Steps.MergedLines.{IsNoRange}

-- a line whose pair is refused
pub IsLineFault-sizes : (before : List (List ℕ)) (pairs : List Node) (line : List ℕ) (node : Node) (refusal : Refusal PairFault)
    → length (concat before) + length line ≤ byte_limit → AreGood before pairs → SaysPair (content line) node
    → line_io.IfFaulty refusal (λ fault. (fault ≡ pair_sizes) × (2 ^ 64 ≤ total_size pairs + node.1))
    → line_io.IfFaulty refusal (pair_text.IsLineFault before line)
IsLineFault-sizes before pairs line node (Faulty fault) within good says (is, past) =
    subst (pair_text.IsLineFault before line) (sym is) (pairs, good, not_bad before pairs line good within node says, (node, says, past))
IsLineFault-sizes before pairs line node out_of_memory within good says h = tt

-- a line that says no range
pub IsLineFault-no_range : (before : List (List ℕ)) (ranges : List Subtree) (line : List ℕ) (refusal : Refusal LineFault)
    → length (concat before) + length line ≤ byte_limit → AreRanges before ranges
    → line_io.IfFaulty refusal (IsNoRange (content line)) → line_io.IfFaulty refusal (IsLineFault before line)
IsLineFault-no_range before ranges line (Faulty (NoRange rule)) within good is = (ranges, good, (λ past. omega (arith, within, past)), is)
IsLineFault-no_range before ranges line (Faulty Bad) within good is = absurd is
IsLineFault-no_range before ranges line (Faulty Sizes) within good is = absurd is
IsLineFault-no_range before ranges line out_of_memory within good is = tt

pub make-fault : {T : Type 0} (is_text_fault : List ℕ → T → Type 0) (text : List ℕ) (of : AnswerFault PairFault T) → line_io.IsFaultOf pair_text.IsLineFault is_text_fault text of
    → IsMakeFaultOf text (make_fault_of of)
make-fault is_text_fault text (Input (Line number bad_pair)) faulty = faulty
make-fault is_text_fault text (Input (Line number pair_sizes)) faulty = faulty
make-fault is_text_fault text (Input input_memory) faulty = tt
make-fault is_text_fault text (Input read_failed) faulty = tt
make-fault is_text_fault text (Answer refusal) faulty = tt
make-fault is_text_fault text write_failed faulty = tt

pub make-write : {T : Type 0} (of : AnswerFault PairFault T) → make_fault_of of ≡ Write → of ≡ write_failed
make-write (Input (Line number bad_pair)) is = cc is
make-write (Input (Line number pair_sizes)) is = cc is
make-write (Input input_memory) is = cc is
make-write (Input read_failed) is = cc is
make-write (Answer refusal) is = cc is
make-write write_failed is = refl

pub prove-fault : (first end : ℕ) (text : List ℕ) (of : AnswerFault PairFault NoChunks)
    → line_io.IsFaultOf pair_text.IsLineFault (λ text _. LacksChunks first end text) text of → IsProveFaultOf first end text (prove_fault_of of)
prove-fault first end text (Input (Line number bad_pair)) faulty = faulty
prove-fault first end text (Input (Line number pair_sizes)) faulty = faulty
prove-fault first end text (Input input_memory) faulty = tt
prove-fault first end text (Input read_failed) faulty = tt
prove-fault first end text (Answer (Faulty lacking)) faulty = faulty
prove-fault first end text (Answer out_of_memory) faulty = tt
prove-fault first end text write_failed faulty = tt

pub prove-write : (of : AnswerFault PairFault NoChunks) → prove_fault_of of ≡ Write → of ≡ write_failed
prove-write (Input (Line number bad_pair)) is = cc is
prove-write (Input (Line number pair_sizes)) is = cc is
prove-write (Input input_memory) is = cc is
prove-write (Input read_failed) is = cc is
prove-write (Answer (Faulty lacking)) is = cc is
prove-write (Answer out_of_memory) is = cc is
prove-write write_failed is = refl

pub range-fault : {T : Type 0} (is_text_fault : List ℕ → T → Type 0) (text : List ℕ) (of : AnswerFault LineFault T) → line_io.IsFaultOf IsLineFault is_text_fault text of
    → IsRangeFaultOf text (range_fault_of of)
range-fault is_text_fault text (Input (Line number Bad)) faulty = faulty
range-fault is_text_fault text (Input (Line number Sizes)) faulty = faulty
range-fault is_text_fault text (Input (Line number (NoRange rule))) faulty = faulty
range-fault is_text_fault text (Input input_memory) faulty = tt
range-fault is_text_fault text (Input read_failed) faulty = tt
range-fault is_text_fault text (Answer refusal) faulty = tt
range-fault is_text_fault text write_failed faulty = tt

pub range-write : {T : Type 0} (of : AnswerFault LineFault T) → range_fault_of of ≡ Write → of ≡ write_failed
range-write (Input (Line number Bad)) is = cc is
range-write (Input (Line number Sizes)) is = cc is
range-write (Input (Line number (NoRange rule))) is = cc is
range-write (Input input_memory) is = cc is
range-write (Input read_failed) is = cc is
range-write (Answer refusal) is = cc is
range-write write_failed is = refl
