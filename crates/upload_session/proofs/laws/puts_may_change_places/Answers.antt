use Rattle.upload_session.proofs.Exchanging.{exchanged}
use Rattle.upload_session.proofs.laws.puts_may_change_places.Goals as goal

pub returns : goal.returns
returns c = exchanged
