use Rattle.std.proofs.Common.{◌≡◌, ap, subst, ◌∙◌}
use Rattle.upload_session.specs.Session.{size_of_runs}
use Rattle.upload_session.proofs.Sizes.{sizes-chunks}
use Rattle.upload_session.proofs.session.SessionOf.total_size.Goals as goal

pub returns-clause-placed : goal.returns-clause-placed
returns-clause-placed g c = λ fits placed stand.
    ap (λ session. session.size) c.self.view_is
    ∙ subst (λ session. session.size ≡ size_of_runs g.C.ChunkRange session.runs) c.self.view_is c.self.invariant.2
    ∙ sizes-chunks g.C.ChunkRange fits c.args.self.now.runs placed stand
