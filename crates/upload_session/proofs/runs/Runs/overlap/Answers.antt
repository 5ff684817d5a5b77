use Rattle.std.proofs.Common.{sym, ◌∙◌, ap}
use Rattle.upload_session.specs.Session.{PlacedRun}
use Rattle.upload_session.proofs.Positions.{meet-more, overlap-none, overlap-next, from}
use Rattle.upload_session.proofs.runs.Runs.overlap.Goals as goal

pub returns-then-taken : goal.returns-then-taken
returns-then-taken g c =
    sym (meet-more c.args.self.now c.args.first c.args.count c.requires.some (sym c.taken.ensures ∙ c.if-taken.true))

pub returns-in-Some : goal.returns-in-Some
returns-in-Some g c =
    let first = c.args.first in
    let next : PlacedRun g.row.C.Denot = (c.in-Some.next.now, c.in-Some.field-0-1.now) in
    let found = ap (from first) (sym c.self.view_is) ∙ sym (c.range.ensures.between tt) ∙ c.in-Some.ensures.steps in
    let free = sym c.taken.ensures ∙ c.if-taken.false in
    sym (overlap-next first c.args.count c.args.self.now next c.next.new.self c.requires.apart found free)

pub returns-in-None : goal.returns-in-None
returns-in-None g c =
    let first = c.args.first in
    let found = ap (from first) (sym c.self.view_is) ∙ sym (c.range.ensures.between tt) ∙ c.in-None.ensures.steps.0 in
    let free = sym c.taken.ensures ∙ c.if-taken.false in
    sym (overlap-none first c.args.count c.args.self.now found free)
