use Rattle.upload_session.proofs.Exchanging.{in_parts}
use Rattle.upload_session.proofs.laws.puts_may_come_in_parts.Goals as goal

pub returns : goal.returns
returns c = in_parts
