use Rattle.std.proofs.Common.{◌++◌, sym, subst, ap, ◌∙◌}
use Rattle.std.proofs.lemmas.List.Folds.{list_any-append}
use Rattle.upload_session.specs.Hashes.{hashes_of, hash_eq, AreBoth}
use Rattle.upload_session.specs.Session.{StandFor}
use Rattle.upload_session.proofs.Sizes.{placed-more}
use Rattle.upload_session.proofs.session.SessionOf.place.Goals as goal

pub returns-in-Ok-clause-placed : goal.returns-in-Ok-clause-placed
returns-in-Ok-clause-placed g c = λ placed stand.
    c.in-Ok.ensures.placed placed (subst (λ session. StandFor g.C.ChunkRange session.runs placed) (sym c.self.view_is) stand)

pub returns-in-Ok-clause-placed_size : goal.returns-in-Ok-clause-placed_size
returns-in-Ok-clause-placed_size g c = λ placed stand sized.
    c.requires.sizes ∙ placed-more c.args.self.now.size placed c.args.first c.args.chunks.now sized

pub returns-clause-unchanged : goal.returns-clause-unchanged
returns-clause-unchanged g c = (
  c.in-Err.ensures.unchanged ∙ ap (λ session. session.runs) c.self.view_is,
  ap (λ session. session.size) c.self.view_is,
  λ known knows.
      let hashes = hashes_of c.args.chunks.now in
      let all = known ++ hashes in
      let both : AreBoth known hashes all = λ hash. list_any-append (hash_eq hash) known hashes in
      let was = subst (λ session. g.H.KeptHashes.knows session.kept known) (sym c.self.view_is) knows in
      c.give_up.ensures.kept known hashes all both
      (subst (λ new. g.H.KeptHashes.tells known hashes new) (sym c.deref.ensures.value) (c.in_ok-new.ensures.new known was))
      (c.in_ok-new.ensures.kept known all was both),
)
