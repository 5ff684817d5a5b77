use Rattle.std.proofs.Common.{◌≡◌, ℕ, ◌+◌, List, ◌∷◌, ◌++◌, get_or, take, sym, ap, ◌∙◌, arith, eq-eqb, eqb-true}
use Rattle.std.proofs.lemmas.List.{take_rest}
use Rattle.line_io.specs.Lines.{newline}
use Rattle.line_io.proofs.Lines.{NoNewline-none, NoNewline-before, split_at_newline}
use Rattle.line_io.proofs.reading.split_line.Goals as goal

pub returns-in_err-end-clause-none : goal.returns-in_err-end-clause-none
returns-in_err-end-clause-none c = rw c.from_residual.ensures (NoNewline-none c.args.bytes.now (λ k below is. c.in_err-end.ensures k (omega arith) below (eq-eqb _ newline is)))

pub returns-clause-found : goal.returns-clause-found
returns-clause-found c =
    let bytes = c.args.bytes.now in
    let end = c.in_ok-end.end in
    let first = c.in_ok-end.ensures.0 in
    let is : get_or bytes end 0 ≡ newline = eqb-true (get_or bytes end 0) newline c.in_ok-end.ensures.1 in (
      split_at_newline bytes end first.high is ∙ ap (λ (l : List ℕ). take end bytes ++ newline ∷ l) (sym (take_rest bytes (end + 1))),
      NoNewline-before bytes end (let high = first.high in omega arith) (λ k below is. first.before k (omega arith) below (eq-eqb _ newline is)),
    )
