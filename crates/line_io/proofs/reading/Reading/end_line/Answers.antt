use Rattle.std.proofs.Common.{◌≡◌, ◌+◌, [], ◌∷◌, ◌++◌, length, sym, subst, ◌∙◌, arith, length-append}
use Rattle.std.proofs.lemmas.Bool.{false≢true}
use Rattle.line_io.specs.Faults.{HasFault}
use Rattle.line_io.specs.Lines.{newline}
use Rattle.line_io.proofs.Lines.{content-whole}
use Rattle.line_io.proofs.Pieces.{StandsAt-end, HasFault-ended, IfLine-at}
use Rattle.line_io.proofs.reading.Reading.end_line.Goals as goal

pub returns-in-Err-clause-fault : goal.returns-in-Err-clause-fault
returns-in-Err-clause-fault g c = λ text rest within taken.
    let stands = taken.stands_at in
    let line = taken.line ++ newline ∷ [] in
    let held = subst (g.L.TakeLines.has_taken c.args.self.now.lines taken.before) (sym (content-whole taken.line)) taken.taken in
    IfLine-at _ c.in-Err.refusal (λ (_ : Unit {0}) fault. g.L.TakeLines.is_fault taken.before line fault)
    (HasFault g.L.TakeLines.is_fault (text ++ newline ∷ rest)) _ c.at_line.ensures
    (λ _. c.in-Err.ensures.fault taken.before line (omega (arith, within, stands.bytes, length-append taken.line (newline ∷ []))) held)
    (λ fault faulty. HasFault-ended text taken.before _ taken.line stands g.L.TakeLines.is_fault fault rest (faulty tt))

pub returns-clause-taken : goal.returns-clause-taken
returns-clause-taken g c = λ text within taken.
    let stands = taken.stands_at in
    let line = taken.line ++ newline ∷ [] in
    let held = subst (g.L.TakeLines.has_taken c.args.self.now.lines taken.before) (sym (content-whole taken.line)) taken.taken in
    let few = stands.few in
    let is = stands.number_is in
    let count_is = taken.count_is in
    let number : c.saturating_add-self-2.result ≡ c.args.self.now.number + 1 = omega arith in
    let count : c.saturating_add-self.result ≡ length text + 1 = omega arith in
    record {
      before = taken.before ++ line ∷ [];
      line = [];
      taken = c.in_default.ensures.taken taken.before line
          (omega (arith, within, stands.bytes, length-append taken.line (newline ∷ []))) held;
      stands_at = rw number (StandsAt-end text taken.before _ taken.line stands);
      begun = ((λ h. absurd (false≢true h)), (λ h. absurd (omega (arith, h))));
      count_is = count ∙ sym (length-append text (newline ∷ []));
      within = omega (arith, length-append text (newline ∷ []));
    }
