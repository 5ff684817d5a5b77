use Rattle.std.proofs.Common.{◌≡◌, ◌+◌, ◌<◌, ◌++◌, ℕ, List, length, refl, sym, ◌∙◌, arith, length-append}
use Rattle.std.proofs.lemmas.Bool.Decides.{nat_tests}
use Rattle.line_io.specs.Faults.{HasFault}
use Rattle.line_io.proofs.Pieces.{StandsAt-extend, HasFault-open, IfLine-at}
use Rattle.line_io.proofs.reading.Reading.extend_line.Goals as goal

pub returns-in-Err-clause-fault : goal.returns-in-Err-clause-fault
returns-in-Err-clause-fault g c = λ text rest within taken.
    let bytes = c.args.bytes.now in
    let some : 0 < length bytes = grind (arith, nat_tests, c.is_empty.ensures, c.if-is_empty.false) in
    let stands = StandsAt-extend text taken.before _ taken.line taken.stands_at bytes c.requires in
    let longer = length-append taken.line bytes in
    IfLine-at _ c.in-Err.refusal (λ (more : List ℕ) fault. g.L.TakeLines.is_fault taken.before ((taken.line ++ bytes) ++ more) fault)
    (HasFault g.L.TakeLines.is_fault (text ++ bytes ++ rest)) _ c.at_line.ensures
    (λ more. c.in-Err.ensures.fault taken.before taken.line more (omega (arith, within, stands.bytes, length-append text bytes)) taken.taken)
    (λ fault faulty. HasFault-open (text ++ bytes) taken.before _ (taken.line ++ bytes) stands g.L.TakeLines.is_fault fault rest (omega (arith, some, longer)) faulty)

pub returns-clause-taken : goal.returns-clause-taken
returns-clause-taken g c = λ text within taken.
    let bytes = c.args.bytes.now in
    let some : 0 < length bytes = grind (arith, nat_tests, c.is_empty.ensures, c.if-is_empty.false) in
    let longer = length-append taken.line bytes in
    let count : c.saturating_add-self.result ≡ length text + length bytes =
    let is = taken.count_is in omega arith in record {
      before = taken.before;
      line = taken.line ++ bytes;
      taken = c.in_default.ensures.taken taken.before taken.line taken.taken;
      stands_at = StandsAt-extend text taken.before _ taken.line taken.stands_at bytes c.requires;
      begun = ((λ h. omega (arith, some, longer)), (λ h. refl));
      count_is = count ∙ sym (length-append text bytes);
      within = omega (arith, within, length-append text bytes);
    }
