use Rattle.std.proofs.Common.{rules, ◌++◌, refl, sym, subst, ap, ◌∙◌}
use Rattle.std.proofs.lemmas.List.Folds.{list_any-append}
use Rattle.upload_session.specs.Hashes.{hash_eq, AreBoth}
use Rattle.upload_session.specs.Session.{StandForBoth}
use Rattle.upload_session.proofs.session.SessionOf.join.Goals as goal

pub returns-in-Some-clause-free : goal.returns-in-Some-clause-free
returns-in-Some-clause-free g c = λ none. absurd (none c.in-Some.position refl)

pub returns-clause-unchanged : goal.returns-clause-unchanged
returns-clause-unchanged g c = (
  c.in-Err.ensures.unchanged ∙ ap (λ session. session.runs) c.self.view_is,
  ap (λ session. session.size) c.self.view_is,
  λ known knows.
      let (more, others) = c.in_ok-learned.ensures.others in
      let all = known ++ more in
      let both : AreBoth known more all = λ hash. list_any-append (hash_eq hash) known more in
      let was = subst (λ session. g.H.KeptHashes.knows session.kept known) (sym c.self.view_is) knows in
      c.give_up.ensures.kept known more all both
      (subst (λ new. g.H.KeptHashes.tells known more new) (sym c.deref.ensures.value) (c.in_ok-learned.ensures.new known more was others))
      (c.in_ok-learned.ensures.kept known more all was others both),
)

pub returns-in-Ok-clause-placed : goal.returns-in-Ok-clause-placed
returns-in-Ok-clause-placed g c =
    let kind = g.C.ChunkRange in
    subst (λ session. StandForBoth kind session.runs c.args.other.now.runs c.join.new.self) c.self.view_is
    (subst (λ session. StandForBoth kind c.self.inside.runs session.runs c.join.new.self) c.other.view_is c.in-Ok.ensures.placed)

pub returns-in-Ok-clause-size : goal.returns-in-Ok-clause-size
returns-in-Ok-clause-size g c = search rules

pub invariant_of-self-in-Ok : goal.invariant_of-self-in-Ok
invariant_of-self-in-Ok g c = search rules
