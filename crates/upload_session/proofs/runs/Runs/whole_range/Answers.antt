use Rattle.std.proofs.Common.{arith, ◌≡◌, [], ◌∷◌, List, length, refl, sym, subst, ◌∙◌, ap}
use Rattle.std.specs.Prelude.{slice_get}
use Rattle.upload_session.specs.Session.{PlacedRun, Cover}
use Rattle.upload_session.proofs.OpenRuns.{first_open}
use Rattle.upload_session.proofs.Whole.{only, cover-first}
use Rattle.upload_session.proofs.runs.Runs.whole_range.Given.{Over}
use Rattle.upload_session.proofs.runs.Runs.whole_range.Goals as goal
use Rattle.upload_session.proofs.runs.Runs.whole_range.Goals.{then-first-gt0-via-then-first-gt0, then-first-gt0-via-else-first-gt0+then-run-total, then-first-gt0-via-else-first-gt0+else-run-total+then-len-gt1}

pub returns-then-first-gt0-clause-gap : goal.returns-then-first-gt0-clause-gap
returns-then-first-gt0-clause-gap g c = λ covers.
    let first : PlacedRun g.row.C.Denot = (c.in-Some.first.now, c.in-Some.run'.now) in
    let found = ap (λ (runs : List (PlacedRun g.row.C.Denot)). slice_get runs 0) (sym c.self.view_is) ∙ c.in-Some.ensures.first in
    let (begins, ends, one) = cover-first c.args.total c.args.self.now first covers found in
    elim c.then-first-gt0.branch [
      | then-first-gt0-via-then-first-gt0 w ↦ omega (arith, w.if-first-gt0.true, begins)
      | then-first-gt0-via-else-first-gt0+then-run-total w ↦ omega (arith, w.if-run-total.true, ends)
      | then-first-gt0-via-else-first-gt0+else-run-total+then-len-gt1 w ↦ omega (arith, w.if-len-gt1.true, w.len.ensures.len, one, ap length c.self.view_is)
    ]

-- the first run is the only one
one_run : (g : Over) (c : goal.Else-len-gt1 g) → c.args.self.now ≡ (c.in-Some.first.now, c.in-Some.run'.now) ∷ []
one_run g c =
    let found = ap (λ (runs : List (PlacedRun g.row.C.Denot)). slice_get runs 0) (sym c.self.view_is) ∙ c.in-Some.ensures.first in
    only c.args.self.now (c.in-Some.first.now, c.in-Some.run'.now) (omega (arith, c.if-len-gt1.false, c.len.ensures.len, ap length c.self.view_is)) found

pub returns-clause-whole : goal.returns-clause-whole
returns-clause-whole g c =
    subst (λ (runs : List (PlacedRun g.row.C.Denot)). Cover c.args.total runs) (sym (one_run g c))
    (omega (arith, c.if-first-gt0.false), grind (arith, c.if-run-total.false))

pub returns-clause-range : goal.returns-clause-range
returns-clause-range g c = ((c.in-Some.first.now, c.in-Some.run'.now), one_run g c, refl)

pub returns-clause-marks : goal.returns-clause-marks
returns-clause-marks g c =
    first_open g.C.ChunkRange c.args.self.now (c.in-Some.first.now, c.in-Some.run'.now) c.requires
    (ap (λ (runs : List (PlacedRun g.row.C.Denot)). slice_get runs 0) (sym c.self.view_is) ∙ c.in-Some.ensures.first)
