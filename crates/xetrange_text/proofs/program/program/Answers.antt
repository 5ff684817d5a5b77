use Rattle.std.proofs.Common.{List, ℕ, ◌∷◌, sym, subst, ◌∙◌, IfErr}
use Rattle.std.proofs.lemmas.Result.{IfErr-weaker}
use Rattle.std.specs.String.{string_bytes}
use Rattle.line_io.specs.Answers.{AnswersInput}
use Rattle.line_io.specs.Requests.{words_left}
use Rattle.xetrange_text.specs.declared.command.Command.{Command}
use Rattle.xetrange_text.specs.declared.fault.RangeFault.TheVariants.{Write}
use Rattle.xetrange_text.specs.Words.{AskFor, IsAnswerOf, IsFaultOf}
use Rattle.xetrange_text.proofs.Words.{help-no_command, the_command, has_command}
use Rattle.xetrange_text.proofs.program.program.Goals as goal

pub returns-in-Ok-Help-clause-command : goal.returns-in-Ok-Help-clause-command
returns-in-Ok-Help-clause-command g c = λ command has.
    absurd (help-no_command c.args.args command (rw c.in-Ok-Help.field-0-is at c.in-Ok-Help.ensures.words) has)

pub returns-in-Some-clause-command : goal.returns-in-Some-clause-command
returns-in-Some-clause-command g c = λ command has.
    let rest = words_left c.in-Ok-Command.rest in
    let found = c.in-Some.command in
    let asks = subst (λ (word : List ℕ). AskFor (word ∷ rest) found) c.deref.ensures c.in-Some.ensures.command in
    let same = the_command c.args.args (string_bytes c.in-Ok-Command.word ∷ rest) found command (rw c.in-Ok-Command.field-0-is at c.in-Ok-Command.ensures.words) asks has in
    let ended = subst (λ (of : Command). AnswersInput (IsAnswerOf of) (IsFaultOf of) Write (g.R.Read.remaining c.args.r.now) (g.R.Read.remaining c.run.new.r)
    (g.W.Write.contents c.args.w.now) (g.W.Write.contents c.run.new.w) c.run.result) same c.run.ensures in
    (c.run.result, c.report.ensures.status, ended)

pub returns-in-Some-clause-unread : goal.returns-in-Some-clause-unread
returns-in-Some-clause-unread g c = λ none.
    let rest = words_left c.in-Ok-Command.rest in
    let found = c.in-Some.command in
    let asks = subst (λ (word : List ℕ). AskFor (word ∷ rest) found) c.deref.ensures c.in-Some.ensures.command in
    let readable : IfErr c.args.args (λ _. ⊥) = IfErr-weaker c.args.args _ _ (λ error is. let clash : ⊥ = cc (sym c.in-Ok-Command.field-0-is ∙ is) in clash) c.in-Ok-Command.ensures.unreadable in
    absurd (none found (has_command c.args.args (string_bytes c.in-Ok-Command.word ∷ rest) found (rw c.in-Ok-Command.field-0-is at c.in-Ok-Command.ensures.words) readable asks))
