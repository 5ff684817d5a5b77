use Rattle.std.proofs.Common.{nat_cmp, is_lt, ◌≡◌, ℕ, false, List, subst}
use Rattle.std.specs.Map.{keys_of}
use Rattle.std.specs.Prelude.{All}
use Rattle.upload_session.specs.Session.{PlacedRun}
use Rattle.upload_session.proofs.SortedEntries.{all-before}
use Rattle.upload_session.proofs.runs.Runs.end_before.Goals as goal

pub returns-then-first-position-clause-all : goal.returns-then-first-position-clause-all
returns-then-first-position-clause-all g c = λ _.
    let last = c.in-Some.first.now in
    all-before c.args.position c.args.self.now last c.if-first-position.true
    (subst (λ (runs : List (PlacedRun g.row.C.Denot)). All (λ (n : ℕ). is_lt (nat_cmp last n) ≡ false) (keys_of runs)) c.self.view_is c.in-Some.ensures.all_up_to)
