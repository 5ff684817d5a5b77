use Rattle.std.proofs.Common.{arith, length, [], ◌∷◌, sym, ap, subst, ◌∙◌}
use Rattle.std.specs.Prelude.{slice_get}
use Rattle.upload_session.specs.Session.{PlacedRun}
use Rattle.upload_session.specs.Steps.OpenRuns.{IsOpen}
use Rattle.upload_session.proofs.JoiningRuns.{joining-both, joining-next, joining-one, joining-taken, next-free, next-long, next-open, next-room}
use Rattle.upload_session.proofs.Whole.{only}
use Rattle.upload_session.proofs.runs.Runs.join.Goals as goal

pub overflow_sub-end : goal.overflow_sub-end
overflow_sub-end g c =
    let kind = g.C.ChunkRange in
    let one = c.args.self.now in
    let other = c.args.other.now in
    let run : PlacedRun g.row.C.Denot = (c.in-Some.first.now, c.in-Some.run'.now) in
    let found = ap (λ runs. slice_get runs 0) (sym c.other.view_is) ∙ c.in-Some.ensures.first in
    let is = only other run (omega (arith, c.if-len-gt1.false, c.len.ensures.len, ap length c.other.view_is)) found in
    let start = joining-one kind one other run is c.requires.apart c.requires.open c.requires.others_apart c.requires.others_open c.requires.free in
    let long = next-long kind one other one [] run start in
    omega (arith, long)

pub place_range-requires-clause-some : goal.place_range-requires-clause-some
place_range-requires-clause-some g c =
    let kind = g.C.ChunkRange in
    let one = c.args.self.now in
    let other = c.args.other.now in
    let run : PlacedRun g.row.C.Denot = (c.in-Some.first.now, c.in-Some.run'.now) in
    let found = ap (λ runs. slice_get runs 0) (sym c.other.view_is) ∙ c.in-Some.ensures.first in
    let is = only other run (omega (arith, c.if-len-gt1.false, c.len.ensures.len, ap length c.other.view_is)) found in
    let start = joining-one kind one other run is c.requires.apart c.requires.open c.requires.others_apart c.requires.others_open c.requires.free in
    let long = next-long kind one other one [] run start in
    omega (arith, long)

pub place_range-requires-clause-room : goal.place_range-requires-clause-room
place_range-requires-clause-room g c =
    let kind = g.C.ChunkRange in
    let one = c.args.self.now in
    let other = c.args.other.now in
    let run : PlacedRun g.row.C.Denot = (c.in-Some.first.now, c.in-Some.run'.now) in
    let found = ap (λ runs. slice_get runs 0) (sym c.other.view_is) ∙ c.in-Some.ensures.first in
    let is = only other run (omega (arith, c.if-len-gt1.false, c.len.ensures.len, ap length c.other.view_is)) found in
    let start = joining-one kind one other run is c.requires.apart c.requires.open c.requires.others_apart c.requires.others_open c.requires.free in
    let same = c.in_ok-try_clone.ensures.copy in
    let total = ap kind.total same in
    let room = next-room kind one other one [] run start in
    (subst (IsOpen kind) (sym same) (next-open kind one other one [] run start), (c.requires.open, omega (arith, room, total, c.requires.room)))

pub place_range-requires-clause-free : goal.place_range-requires-clause-free
place_range-requires-clause-free g c =
    let kind = g.C.ChunkRange in
    let one = c.args.self.now in
    let other = c.args.other.now in
    let run : PlacedRun g.row.C.Denot = (c.in-Some.first.now, c.in-Some.run'.now) in
    let found = ap (λ runs. slice_get runs 0) (sym c.other.view_is) ∙ c.in-Some.ensures.first in
    let is = only other run (omega (arith, c.if-len-gt1.false, c.len.ensures.len, ap length c.other.view_is)) found in
    let start = joining-one kind one other run is c.requires.apart c.requires.open c.requires.others_apart c.requires.others_open c.requires.free in
    next-free kind one other one [] run start

pub returns-clause-placed : goal.returns-clause-placed
returns-clause-placed g c =
    let kind = g.C.ChunkRange in
    let one = c.args.self.now in
    let other = c.args.other.now in
    let run : PlacedRun g.row.C.Denot = (c.in-Some.first.now, c.in-Some.run'.now) in
    let found = ap (λ runs. slice_get runs 0) (sym c.other.view_is) ∙ c.in-Some.ensures.first in
    let is = only other run (omega (arith, c.if-len-gt1.false, c.len.ensures.len, ap length c.other.view_is)) found in
    let start = joining-one kind one other run is c.requires.apart c.requires.open c.requires.others_apart c.requires.others_open c.requires.free in
    let done = joining-next kind one other one [] run start c.in_ok-try_clone.field-0 c.in_ok-try_clone.ensures.copy c.place_range.new.self
    c.in_ok-place_range.ensures.sizes.0 c.in_ok-place_range.ensures.taken in
    joining-both kind one other c.place_range.new.self done

pub returns-clause-taken : goal.returns-clause-taken
returns-clause-taken g c =
    let kind = g.C.ChunkRange in
    let one = c.args.self.now in
    let other = c.args.other.now in
    let run : PlacedRun g.row.C.Denot = (c.in-Some.first.now, c.in-Some.run'.now) in
    let found = ap (λ runs. slice_get runs 0) (sym c.other.view_is) ∙ c.in-Some.ensures.first in
    let is = only other run (omega (arith, c.if-len-gt1.false, c.len.ensures.len, ap length c.other.view_is)) found in
    let start = joining-one kind one other run is c.requires.apart c.requires.open c.requires.others_apart c.requires.others_open c.requires.free in
    let done = joining-next kind one other one [] run start c.in_ok-try_clone.field-0 c.in_ok-try_clone.ensures.copy c.place_range.new.self
    c.in_ok-place_range.ensures.sizes.0 c.in_ok-place_range.ensures.taken in
    joining-taken kind one other c.place_range.new.self done

pub returns-clause-sizes : goal.returns-clause-sizes
returns-clause-sizes g c =
    let kind = g.C.ChunkRange in
    let one = c.args.self.now in
    let other = c.args.other.now in
    let run : PlacedRun g.row.C.Denot = (c.in-Some.first.now, c.in-Some.run'.now) in
    let found = ap (λ runs. slice_get runs 0) (sym c.other.view_is) ∙ c.in-Some.ensures.first in
    let is = only other run (omega (arith, c.if-len-gt1.false, c.len.ensures.len, ap length c.other.view_is)) found in
    let start = joining-one kind one other run is c.requires.apart c.requires.open c.requires.others_apart c.requires.others_open c.requires.free in
    let done = joining-next kind one other one [] run start c.in_ok-try_clone.field-0 c.in_ok-try_clone.ensures.copy c.place_range.new.self
    c.in_ok-place_range.ensures.sizes.0 c.in_ok-place_range.ensures.taken in
    omega (arith, done.sizes)
