use Rattle.std.proofs.Common.{ap}
use Rattle.std.proofs.lemmas.Result.{err_from_is_err_and}
use Rattle.line_io.proofs.Answering.{AnswersInput-err}
use Rattle.xetrange_text.specs.declared.fault.RangeFault.TheVariants.{Write}
use Rattle.xetrange_text.specs.Status.{range_fault_of}
use Rattle.xetrange_text.specs.Answers.{IsRangeFaultOf}
use Rattle.xetrange_text.proofs.Faults.{range-fault, range-write}
use Rattle.xetrange_text.proofs.join.join.Goals as goal

pub returns-in_err-answer_lines : goal.returns-in_err-answer_lines
returns-in_err-answer_lines g c =
    let p = err_from_is_err_and c.from_residual-in_err-answer_lines.result c.from_residual-in_err-answer_lines.ensures.1 in
    let of = c.in_err-answer_lines.field-0.0 in
    rw (p.1, p.2) (AnswersInput-err range_fault_of IsRangeFaultOf Write of c.in_err-answer_lines.ensures (λ text faulty. range-fault (λ _ _. ⊥) text of faulty) (range-write of) (λ is. ap range_fault_of is))
