use Rattle.std.proofs.Common.{subst}
use Rattle.std.specs.Prelude.{IfOk}
use Rattle.upload_session.specs.Hashes.{Knows}
use Rattle.upload_session.proofs.session.SessionOf+C.known_hashes.Goals as goal

pub returns-clause-all : goal.returns-clause-all
returns-clause-all g c =
    subst (λ session. IfOk c.to_vec.result (λ hashes. Knows session.kept hashes.items)) c.self.view_is c.to_vec.ensures.all
