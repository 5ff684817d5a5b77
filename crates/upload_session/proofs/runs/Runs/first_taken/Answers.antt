use Rattle.std.proofs.Common.{arith, sym}
use Rattle.upload_session.specs.Session.{PlacedRun}
use Rattle.upload_session.proofs.Gaps.{found-ends, found-longer, found-taken, found-free}
use Rattle.upload_session.proofs.Ranges.{none-meet, far-meet}
use Rattle.upload_session.proofs.runs.Runs.first_taken.Goals as goal

pub returns-then-begin-first-clause-some : goal.returns-then-begin-first-clause-some
returns-then-begin-first-clause-some g c =
    let first = c.args.first in
    let run : PlacedRun g.row.C.Denot = (c.in-Some.begin, record { end = c.in-Some.field-0-1; range = c.in-Some.field-0-2.now }) in
    let found = sym c.in-Some.ensures in
    let begun = c.if-begin-first.true in
    let some = c.requires.some in
    record {
      from = omega arith;
      before = omega (arith, some);
      taken = found-taken first first c.args.self.now run found (omega (arith, begun)) (found-ends first c.args.self.now run found);
      free = λ place from before. absurd (omega (arith, from, before));
    }

pub returns-then-begin-first-2-clause-some : goal.returns-then-begin-first-2-clause-some
returns-then-begin-first-2-clause-some g c =
    let first = c.args.first in
    let run : PlacedRun g.row.C.Denot = (c.in-Some.begin, record { end = c.in-Some.field-0-1; range = c.in-Some.field-0-2.now }) in
    let found = sym c.in-Some.ensures in
    let later = c.if-begin-first.false in
    let near = c.if-begin-first-2.true in
    record {
      from = omega (arith, later);
      before = omega (arith, later, near);
      taken = found-taken first c.in-Some.begin c.args.self.now run found (omega arith) (found-longer first c.args.self.now run c.requires.apart found);
      free = λ place from before. found-free first place c.args.self.now run c.requires.apart found from before;
    }

pub returns-else-begin-first-2-clause-none : goal.returns-else-begin-first-2-clause-none
returns-else-begin-first-2-clause-none g c =
    let first = c.args.first in
    let run : PlacedRun g.row.C.Denot = (c.in-Some.begin, record { end = c.in-Some.field-0-1; range = c.in-Some.field-0-2.now }) in
    let later = c.if-begin-first.false in
    let far = c.if-begin-first-2.false in
    far-meet first c.args.count c.args.self.now run c.requires.apart (sym c.in-Some.ensures) (omega (arith, later, far))

pub returns-in-None-clause-none : goal.returns-in-None-clause-none
returns-in-None-clause-none g c =
    none-meet c.args.first c.args.count c.args.self.now (sym (rw c.in-None.is at c.run_from.ensures))
