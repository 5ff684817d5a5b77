use Rattle.std.proofs.Common.{[], ap}
use Rattle.std.proofs.lemmas.Result.{err_from_is_err_and}
use Rattle.line_io.proofs.Answering.{AnswersInput-err}
use Rattle.xetroot_text.specs.declared.fault.Fault.TheVariants.{Write}
use Rattle.xetroot_text.specs.Status.{fault_of}
use Rattle.xetroot_text.specs.Answer.{IsFaultOf}
use Rattle.xetroot_text.proofs.GoodLines.{AreGood-none}
use Rattle.xetroot_text.proofs.LineFaults.{IsFaultOf-input, write-only}
use Rattle.xetroot_text.proofs.run.run_with.Goals as goal

pub new-lines-requires : goal.new-lines-requires
new-lines-requires g c = ([], 0, c.in_ok-new.ensures.none, c.in_ok-new.ensures.counted, AreGood-none)

pub returns-in_err-answer_lines : goal.returns-in_err-answer_lines
returns-in_err-answer_lines g c =
    let p = err_from_is_err_and c.from_residual-in_err-answer_lines.result c.from_residual-in_err-answer_lines.ensures.1 in
    let of = c.in_err-answer_lines.field-0.0 in
    rw (p.1, p.2) (AnswersInput-err fault_of IsFaultOf Write of c.in_err-answer_lines.ensures (λ text faulty. IsFaultOf-input text of faulty) (write-only of) (λ is. ap fault_of is))
