use Rattle.std.proofs.Common.{arith, List, ◌∷◌, sym, ap, subst}
use Rattle.upload_session.specs.Session.{PlacedRun}
use Rattle.upload_session.specs.Steps.OpenRuns.{IsOpen}
use Rattle.upload_session.proofs.JoiningRuns.{Joining, joining-both, joining-next, next-free, next-open, next-room}
use Rattle.upload_session.proofs.runs.Runs.joined.Goals as goal

pub place_range-requires-clause-room : goal.place_range-requires-clause-room
place_range-requires-clause-room g c =
    let kind = g.C.ChunkRange in
    let run : PlacedRun g.row.C.Denot = (c.in-Some.first.now, c.in-Some.run'.now) in
    let known = (subst (λ (rest : List (PlacedRun g.row.C.Denot)). Joining g.C.ChunkRange c.args.self.now c.args.other.now c.runs.all rest)
    c.in-Some.ensures.steps c.runs.invariant.0) in
    let same = c.in_ok-try_clone.ensures.copy in
    let total = ap kind.total same in
    let room = next-room kind c.args.self.now c.args.other.now c.runs.all c.next.new.self run known in (
      subst (IsOpen kind) (sym same) (next-open kind c.args.self.now c.args.other.now c.runs.all c.next.new.self run known),
      (known.opened, omega (arith, room, total, c.requires.room)),
    )

pub place_range-requires-clause-free : goal.place_range-requires-clause-free
place_range-requires-clause-free g c =
    next-free g.C.ChunkRange c.args.self.now c.args.other.now c.runs.all c.next.new.self (c.in-Some.first.now, c.in-Some.run'.now) (subst (λ (rest : List (PlacedRun g.row.C.Denot)). Joining g.C.ChunkRange c.args.self.now c.args.other.now c.runs.all rest)
    c.in-Some.ensures.steps c.runs.invariant.0)

pub runs-preserved : goal.runs-preserved
runs-preserved g c =
    let run : PlacedRun g.row.C.Denot = (c.in-Some.first.now, c.in-Some.run'.now) in (
      joining-next g.C.ChunkRange c.args.self.now c.args.other.now c.runs.all c.next.new.self run (subst (λ (rest : List (PlacedRun g.row.C.Denot)). Joining g.C.ChunkRange c.args.self.now c.args.other.now c.runs.all rest)
          c.in-Some.ensures.steps c.runs.invariant.0)
          c.in_ok-try_clone.field-0 c.in_ok-try_clone.ensures.copy c.place_range.new.self
          c.in_ok-place_range.ensures.sizes.0 c.in_ok-place_range.ensures.taken,
      tt,
      tt,
    )

pub returns-clause-placed : goal.returns-clause-placed
returns-clause-placed g c =
    joining-both g.C.ChunkRange c.args.self.now c.args.other.now c.runs.all
    (subst (λ (rest : List (PlacedRun g.row.C.Denot)). Joining g.C.ChunkRange c.args.self.now c.args.other.now c.runs.all rest)
    c.in-None.ensures.steps.0 c.runs.invariant.0)
