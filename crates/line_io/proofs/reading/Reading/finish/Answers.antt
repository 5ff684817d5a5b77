use Rattle.std.proofs.Common.{◌≡◌, ◌<◌, ℕ, List, [], ◌∷◌, length, refl, sym, subst, ◌∙◌, arith, tests, rules}
use Rattle.std.proofs.lemmas.Bool.{false≢true}
use Rattle.line_io.specs.Faults.{HasFault}
use Rattle.line_io.proofs.Lines.{content-open}
use Rattle.line_io.proofs.Pieces.{lines_of-closed, lines_of-open, HasFault-last, IfLine-at}
use Rattle.line_io.proofs.reading.Reading.finish.Goals as goal

pub returns-then-not-self-clause-taken : goal.returns-then-not-self-clause-taken
returns-then-not-self-clause-taken g c = λ text taken.
    let none : length taken.line ≡ 0 = closed taken.line (λ some. false≢true (sym (search (rules, tests)) ∙ taken.begun.1 some)) in
    subst (λ lines. g.L.TakeLines.has_taken c.args.self.lines lines []) (sym (lines_of-closed text taken.before _ taken.line taken.stands_at none))
    (subst (g.L.TakeLines.has_taken c.args.self.lines taken.before) (nothing taken.line none) taken.taken)
  where
    closed : (line : List ℕ) → ¬ (0 < length line) → length line ≡ 0
    closed [] h = refl
    closed (byte ∷ line) h = absurd (h (omega arith))

    nothing : (line : List ℕ) → length line ≡ 0 → line ≡ []
    nothing [] h = refl
    nothing (byte ∷ line) h = absurd (omega (arith, h))

pub returns-in-Err-clause-fault : goal.returns-in-Err-clause-fault
returns-in-Err-clause-fault g c = λ text taken.
    let stands = taken.stands_at in
    let some : 0 < length taken.line = taken.begun.0 (search (rules, tests)) in
    let held = subst (g.L.TakeLines.has_taken c.args.self.lines taken.before) (sym (content-open taken.line stands.is_open)) taken.taken in
    IfLine-at _ c.in-Err.refusal (λ (_ : Unit {0}) fault. g.L.TakeLines.is_fault taken.before taken.line fault)
    (HasFault g.L.TakeLines.is_fault text) _ c.at_line.ensures
    (λ _. c.in-Err.ensures.fault taken.before taken.line (omega (arith, taken.within, stands.bytes)) held)
    (λ fault faulty. HasFault-last text taken.before _ taken.line stands g.L.TakeLines.is_fault fault some (faulty tt))

pub returns-clause-taken : goal.returns-clause-taken
returns-clause-taken g c = λ text taken.
    let stands = taken.stands_at in
    let some : 0 < length taken.line = taken.begun.0 (search (rules, tests)) in
    let held = subst (g.L.TakeLines.has_taken c.args.self.lines taken.before) (sym (content-open taken.line stands.is_open)) taken.taken in
    subst (λ lines. g.L.TakeLines.has_taken c.end_line.new.self lines []) (sym (lines_of-open text taken.before _ taken.line stands some))
    (c.in_default.ensures.taken taken.before taken.line (omega (arith, taken.within, stands.bytes)) held)
