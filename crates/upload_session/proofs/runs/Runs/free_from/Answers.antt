use Rattle.std.proofs.Common.{arith, sym}
use Rattle.upload_session.specs.Session.{PlacedRun}
use Rattle.upload_session.proofs.Gaps.{found-ends, found-taken, found-free, found-free-end, none-free}
use Rattle.upload_session.proofs.runs.Runs.free_from.Goals as goal

pub returns-in-Some-clause-from : goal.returns-in-Some-clause-from
returns-in-Some-clause-from g c =
    let run : PlacedRun g.row.C.Denot = (c.in-Some.first, record { end = c.in-Some.end; range = c.in-Some.field-0-2.now }) in
    let ends = found-ends c.args.position c.args.self.now run (sym c.in-Some.ensures) in
    omega (arith, ends)

pub returns-in-Some-clause-taken : goal.returns-in-Some-clause-taken
returns-in-Some-clause-taken g c = λ place from before.
    let run : PlacedRun g.row.C.Denot = (c.in-Some.first, record { end = c.in-Some.end; range = c.in-Some.field-0-2.now }) in
    let begun = c.if-first-position.true in
    found-taken c.args.position place c.args.self.now run (sym c.in-Some.ensures) (omega (arith, begun, from)) before

pub returns-in-Some-clause-free : goal.returns-in-Some-clause-free
returns-in-Some-clause-free g c =
    let run : PlacedRun g.row.C.Denot = (c.in-Some.first, record { end = c.in-Some.end; range = c.in-Some.field-0-2.now }) in
    found-free-end c.args.position c.args.self.now run c.requires (sym c.in-Some.ensures)

pub returns-in_default-clause-free : goal.returns-in_default-clause-free
returns-in_default-clause-free g c =
    let run : PlacedRun g.row.C.Denot = (c.in-Some.first, record { end = c.in-Some.end; range = c.in-Some.field-0-2.now }) in
    let later = c.if-first-position.false in
    found-free c.args.position c.args.position c.args.self.now run c.requires (sym c.in-Some.ensures) (omega arith) (omega (arith, later))

pub returns-in_default-2-clause-free : goal.returns-in_default-2-clause-free
returns-in_default-2-clause-free g c =
    none-free c.args.position c.args.position c.args.self.now (sym (rw c.in_default.is at c.run_from.ensures)) (omega arith)
