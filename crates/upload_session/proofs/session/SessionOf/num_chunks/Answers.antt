use Rattle.std.proofs.Common.{ap, ◌∙◌}
use Rattle.upload_session.specs.Gaps.{num_positions}
use Rattle.upload_session.proofs.Gaps.{positions-placed}
use Rattle.upload_session.proofs.session.SessionOf.num_chunks.Goals as goal

pub returns-clause-placed : goal.returns-clause-placed
returns-clause-placed g c = λ placed stand.
    c.num_positions.ensures ∙ ap (λ session. num_positions session.runs) c.self.view_is
    ∙ positions-placed g.C.ChunkRange c.args.self.now.runs placed stand
