use Rattle.std.proofs.Common.{arith, refl, sym, inl, inr}
use Rattle.upload_session.specs.Session.{PlacedRun}
use Rattle.upload_session.proofs.Gaps.{found-begins, found-longer, found-taken, found-free, none-free}
use Rattle.upload_session.proofs.runs.Runs.next_gap.Goals as goal

pub returns-in-Some-clause-gap : goal.returns-in-Some-clause-gap
returns-in-Some-clause-gap g c =
    let first = c.free_from-first.result in
    let runs = c.args.self.now in
    let run : PlacedRun g.row.C.Denot = (c.in-Some.next, record { end = c.in-Some.field-0-1; range = c.in-Some.field-0-2.now }) in
    let found = sym c.in-Some.ensures in
    let below = c.if-next-total.true in
    record {
      from = c.free_from-first.ensures.from;
      taken = c.free_from-first.ensures.taken;
      some = found-begins first runs run found c.free_from-first.ensures.free;
      free = λ place at before. found-free first place runs run c.requires found at before;
      below = omega (arith, below);
      ends = inr (found-taken first c.in-Some.next runs run found (omega arith) (found-longer first runs run c.requires found));
    }

pub returns-in_default-clause-gap : goal.returns-in_default-clause-gap
returns-in_default-clause-gap g c =
    let first = c.free_from-first.result in
    let runs = c.args.self.now in
    let run : PlacedRun g.row.C.Denot = (c.in-Some.next, record { end = c.in-Some.field-0-1; range = c.in-Some.field-0-2.now }) in
    let later = c.if-next-total.false in
    let some = c.if-total-first.false in
    record {
      from = c.free_from-first.ensures.from;
      taken = c.free_from-first.ensures.taken;
      some = omega (arith, some);
      free = λ place at before. found-free first place runs run c.requires (sym c.in-Some.ensures) at (omega (arith, before, later));
      below = omega arith;
      ends = inl refl;
    }

pub returns-in_default-2-clause-gap : goal.returns-in_default-2-clause-gap
returns-in_default-2-clause-gap g c =
    let some = c.if-total-first.false in
    record {
      from = c.free_from-first.ensures.from;
      taken = c.free_from-first.ensures.taken;
      some = omega (arith, some);
      free = λ place at _. none-free c.free_from-first.result place c.args.self.now (sym (rw c.in_default.is at c.run_from.ensures)) at;
      below = omega arith;
      ends = inl refl;
    }
