use Rattle.std.proofs.Common.{◌≤◌, ◌++◌, ◌∷◌, [], List, sym, subst, ◌∙◌, ap, append_assoc}
use Rattle.std.specs.Prelude.{All, find}
use Rattle.std.proofs.lemmas.Bool.{true≢false}
use Rattle.upload_session.specs.Session.{PlacedRun, ends_after, meet, AreApart}
use Rattle.upload_session.proofs.Positions.{holds_of_last, taken-none, from, find-taken, find-next, find-none}
use Rattle.upload_session.proofs.SortedEntries.{cut}
use Rattle.upload_session.proofs.runs.Runs.run_from.Goals as goal

pub returns-then-taken : goal.returns-then-taken
returns-then-taken g c =
    let position = c.args.position in
    let (back, is, near, after) = cut position c.self.inside.runs.entries c.range.ensures.ordered in
    let found = sym (c.range.ensures.between tt) ∙ c.in_ok-first.ensures.steps in
    let front = c.next_back.new.self in
    let last : PlacedRun g.row.C.Denot = (c.in_ok-first.first.now, c.in_ok-first.run'.now) in
    let split = sym c.self.view_is ∙ is ∙ ap (λ (runs : List (PlacedRun g.row.C.Denot)). runs ++ back) found ∙ append_assoc front (last ∷ []) back in
    let begins = holds_of_last (λ (run : PlacedRun g.row.C.Denot). run.0 ≤ position) front last []
    (subst (λ (runs : List (PlacedRun g.row.C.Denot)). All (λ (run : PlacedRun g.row.C.Denot). run.0 ≤ position) runs) found near) in
    let taken = ap (λ (runs : List (PlacedRun g.row.C.Denot)). meet runs position 1) (sym split) ∙ sym c.taken.ensures ∙ c.if-taken.true in
    sym (ap (find (ends_after position)) split ∙ find-taken position front last back
    (subst (λ (runs : List (PlacedRun g.row.C.Denot)). AreApart runs) split c.requires) begins after taken)

pub returns-in_err-first : goal.returns-in_err-first
returns-in_err-first g c =
    let position = c.args.position in
    let (back, is, near, after) = cut position c.self.inside.runs.entries c.range.ensures.ordered in
    let found = sym (c.range.ensures.between tt) ∙ c.in_err-first.ensures.steps.0 in
    let split = sym c.self.view_is ∙ is ∙ ap (λ (runs : List (PlacedRun g.row.C.Denot)). runs ++ back) found in
    let free = ap (λ (runs : List (PlacedRun g.row.C.Denot)). meet runs position 1) split ∙ taken-none back position after in
    absurd (true≢false (sym c.if-taken.true ∙ c.taken.ensures ∙ free))

pub returns-in_err-first-2 : goal.returns-in_err-first-2
returns-in_err-first-2 g c =
    let position = c.args.position in
    let found = ap (from position) (sym c.self.view_is) ∙ sym (c.range-2.ensures.between tt) ∙ c.in_err-first-2.ensures.steps.0 in
    let free = sym c.taken.ensures ∙ c.if-taken.false in
    rw c.from_residual-in_err-first-2.ensures (sym (find-none position c.args.self.now found free))

pub returns : goal.returns
returns g c =
    let position = c.args.position in
    let next : PlacedRun g.row.C.Denot = (c.in_ok-first-2.first.now, c.in_ok-first-2.run'.now) in
    let found = ap (from position) (sym c.self.view_is) ∙ sym (c.range-2.ensures.between tt) ∙ c.in_ok-first-2.ensures.steps in
    let free = sym c.taken.ensures ∙ c.if-taken.false in
    sym (find-next position c.args.self.now next c.next.new.self c.requires found free)
