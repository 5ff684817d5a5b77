use Rattle.std.proofs.Common.{rules}
use Rattle.upload_session.proofs.session.SessionOf.keep_hashes.Goals as goal

pub returns-clause-learned : goal.returns-clause-learned
returns-clause-learned g c = search rules
