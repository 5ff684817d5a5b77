use Rattle.std.proofs.Common.{[], ap}
use Rattle.std.proofs.lemmas.Result.{err_from_is_err_and}
use Rattle.line_io.proofs.Answering.{AnswersInput-err}
use Rattle.xetrange_text.specs.declared.fault.RangeFault.TheVariants.{Write}
use Rattle.xetrange_text.specs.Status.{prove_fault_of}
use Rattle.xetrange_text.specs.Answers.{IsProveFaultOf}
use Rattle.pair_text.proofs.GoodPairs.{AreGood-none}
use Rattle.xetrange_text.proofs.Faults.{prove-fault, prove-write}
use Rattle.xetrange_text.proofs.prove.prove_in.Goals as goal

pub new-lines-requires : goal.new-lines-requires
new-lines-requires g c = ([], c.in_ok-new.ensures, AreGood-none)

pub returns-in_err-answer_lines : goal.returns-in_err-answer_lines
returns-in_err-answer_lines g c =
    let p = err_from_is_err_and c.from_residual-in_err-answer_lines.result c.from_residual-in_err-answer_lines.ensures.1 in
    let of = c.in_err-answer_lines.field-0.0 in
    let first = c.args.first in
    let end = c.args.end in
    rw (p.1, p.2) (AnswersInput-err prove_fault_of (IsProveFaultOf first end) Write of c.in_err-answer_lines.ensures
    (λ text faulty. prove-fault first end text of faulty) (prove-write of) (λ is. ap prove_fault_of is))
