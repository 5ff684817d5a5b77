use Rattle.std.proofs.Common.{◌≡◌, ℕ, List, [], inl, inr, Option, Some, None, IfSome}
use Rattle.line_io.specs.Requests.{AskForHelp}
use Rattle.line_io.proofs.Requests.{words-ask_for_help}
use Rattle.xetroot_text.specs.declared.fault.Fault.{Fault}
use Rattle.xetroot_text.specs.declared.fault.Fault.TheVariants.{Memory}
use Rattle.xetroot_text.specs.Answer.{IsFaultOf}
use Rattle.xetroot_text.specs.Status.{status_of}
use Rattle.xetroot_text.proofs.program.program.Goals as goal

no_word-asks_for_help : AskForHelp [] → ⊥
no_word-asks_for_help (inl is) = cc is
no_word-asks_for_help (inr is) = cc is

out_of_memory : (input : Option (List ℕ)) (status : ℕ) → status ≡ 3
    → IfSome input (λ text. (fault : Fault) × (status ≡ status_of fault) × IsFaultOf text fault)
out_of_memory None status is = tt
out_of_memory (Some text) status is = (Memory, is, tt)

pub returns-in-Ok-Help-clause-run : goal.returns-in-Ok-Help-clause-run
returns-in-Ok-Help-clause-run g c = λ none. absurd (no_word-asks_for_help (
    words-ask_for_help c.args.args [] (rw c.in-Ok-Help.field-0-is at c.in-Ok-Help.ensures.words) none))

pub returns-in-Err-clause-fault : goal.returns-in-Err-clause-fault
returns-in-Err-clause-fault g c = λ some known. out_of_memory _ _ c.report-in-Err.ensures.status
