use Rattle.std.proofs.Common.{rules}
use Rattle.upload_session.proofs.runs.Runs.with_next.Goals as goal

pub returns-clause-stands : goal.returns-clause-stands
returns-clause-stands g c = search rules
