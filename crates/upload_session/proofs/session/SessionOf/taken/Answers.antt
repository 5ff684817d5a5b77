use Rattle.std.proofs.Common.{sym, ap, ◌∙◌}
use Rattle.upload_session.specs.Session.{meet}
use Rattle.upload_session.proofs.Positions.{taken-runs}
use Rattle.upload_session.proofs.session.SessionOf.taken.Goals as goal

pub returns-clause-placed : goal.returns-clause-placed
returns-clause-placed g c = λ placed stand.
    c.taken.ensures ∙ ap (λ session. meet session.runs c.args.position 1) c.self.view_is
    ∙ sym (taken-runs g.C.ChunkRange c.args.self.now.runs placed c.args.position stand)
