use Rattle.std.proofs.Common.{◌≤◌, ◌++◌, ◌∷◌, [], List, sym, subst, ◌∙◌, ap, append_assoc}
use Rattle.std.specs.Prelude.{All}
use Rattle.upload_session.specs.Session.{PlacedRun, meet, AreApart}
use Rattle.upload_session.proofs.Positions.{holds_of_last, taken-last, taken-none}
use Rattle.upload_session.proofs.SortedEntries.{cut}
use Rattle.upload_session.proofs.runs.Runs.taken.Goals as goal

pub returns-in-Some : goal.returns-in-Some
returns-in-Some g c =
    let position = c.args.position in
    let (back, is, near, after) = cut position c.self.inside.runs.entries c.range.ensures.ordered in
    let found = sym (c.range.ensures.between tt) ∙ c.in-Some.ensures.steps in
    let front = c.next_back.new.self in
    let last : PlacedRun g.row.C.Denot = (c.in-Some.field-0-0.now, c.in-Some.run'.now) in
    let split = sym c.self.view_is ∙ is ∙ ap (λ (runs : List (PlacedRun g.row.C.Denot)). runs ++ back) found ∙ append_assoc front (last ∷ []) back in
    let begins = holds_of_last (λ (run : PlacedRun g.row.C.Denot). run.0 ≤ position) front last []
    (subst (λ (runs : List (PlacedRun g.row.C.Denot)). All (λ (run : PlacedRun g.row.C.Denot). run.0 ≤ position) runs) found near) in
    sym (ap (λ (runs : List (PlacedRun g.row.C.Denot)). meet runs position 1) split
    ∙ taken-last front last back position (subst (λ (runs : List (PlacedRun g.row.C.Denot)). AreApart runs) split c.requires) begins after)

pub returns-in-None : goal.returns-in-None
returns-in-None g c =
    let position = c.args.position in
    let (back, is, near, after) = cut position c.self.inside.runs.entries c.range.ensures.ordered in
    let found = sym (c.range.ensures.between tt) ∙ c.in-None.ensures.steps.0 in
    let split = sym c.self.view_is ∙ is ∙ ap (λ (runs : List (PlacedRun g.row.C.Denot)). runs ++ back) found in
    sym (ap (λ (runs : List (PlacedRun g.row.C.Denot)). meet runs position 1) split ∙ taken-none back position after)
