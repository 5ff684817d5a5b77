use Rattle.std.proofs.Common.{arith, sym, ◌∙◌, ap}
use Rattle.std.proofs.lemmas.List.{same_from_push}
use Rattle.upload_session.specs.Session.{PlacedRun}
use Rattle.upload_session.proofs.SortedEntries.{upto}
use Rattle.upload_session.proofs.runs.Runs.run_before.Goals as goal

pub returns-in-Some : goal.returns-in-Some
returns-in-Some g c =
    let there = c.if-run-position.true in (
      c.next_back.new.self,
      c.in-Some.run'.now,
      ap (upto c.args.position) (sym c.self.view_is) ∙ sym (c.range.ensures.between tt) ∙ c.in-Some.ensures.steps,
      grind (arith, there),
    )

pub returns-in_default : goal.returns-in_default
returns-in_default g c = λ front last is ends.
    let found = sym (c.range.ensures.between tt) ∙ c.in-Some.ensures.steps in
    let other : PlacedRun g.row.C.Denot = (c.in-Some.start.now, c.in-Some.run'.now) in
    let same = same_from_push c.next_back.new.self front other last (sym found ∙ ap (upto c.args.position) c.self.view_is ∙ is) in
    let apart = c.if-run-position.false in
    let ends_too = ap (λ (run : PlacedRun g.row.C.Denot). run.1.end) same.1 ∙ ends in
    grind (arith, apart, ends_too)
