use Rattle.std.proofs.Common.{subst}
use Rattle.std.specs.Prelude.{IfNone, IfSome}
use Rattle.upload_session.specs.Gaps.{AllTaken, IsNextGap}
use Rattle.upload_session.proofs.Positions.{taken-runs}
use Rattle.upload_session.proofs.session.SessionOf.next_gap.Goals as goal

pub returns-clause-gap : goal.returns-clause-gap
returns-clause-gap g c =
    subst (λ session. IfSome c.next_gap.result (λ gap. IsNextGap session.runs c.args.position c.args.total gap.0 gap.1)) c.self.view_is c.next_gap.ensures.gap

pub returns-clause-none : goal.returns-clause-none
returns-clause-none g c =
    subst (λ session. IfNone c.next_gap.result (AllTaken session.runs c.args.position c.args.total)) c.self.view_is c.next_gap.ensures.none

pub returns-clause-placed : goal.returns-clause-placed
returns-clause-placed g c = λ placed stand place. taken-runs g.C.ChunkRange c.args.self.now.runs placed place stand
