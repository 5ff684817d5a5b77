use Rattle.std.proofs.Common.{nat_cmp, ◌≡◌, [], sym, ap, subst, ◌∙◌}
use Rattle.std.specs.Prelude.{is_some}
use Rattle.std.specs.BTreeMap.{is_at}
use Rattle.std.specs.Map.{lookup}
use Rattle.std.proofs.lemmas.Bool.{true≢false}
use Rattle.std.proofs.lemmas.Option.{same_Some}
use Rattle.upload_session.specs.declared.runs.Run.{Run}
use Rattle.upload_session.proofs.runs.Runs.with_previous.Goals as goal
use Rattle.upload_session.proofs.runs.Runs.with_previous.Goals.{in-Some+in_ok-join, in_default}

pub returns-clause-stands : goal.returns-clause-stands
returns-clause-stands g c = λ last is a b last_stands made_stands.
    let kind = g.C.ChunkRange in
    let found = ap (λ runs. lookup (is_at (nat_cmp c.args.begin)) runs) c.self.view_is ∙ is in
    elim c.match-get.branch [
      | in-Some+in_ok-join w ↦
          let same : w.in-Some.run'.now ≡ last = same_Some _ _ (w.in-Some.ensures.value ∙ found) in
          let merged = w.in_ok-join.ensures.stands [] a c.in_ok-front.ensures.stands (subst (λ (run : Run g.row.C.Denot). kind.stands run.range a) (sym same) last_stands) in
          c.in_ok-join-2.ensures.stands a b (subst (λ range. kind.stands range a) (sym w.front-is) merged) made_stands
      | in_default w ↦ absurd (true≢false (sym (ap is_some (w.in_default.ensures.value ∙ found))))
    ]
