use Rattle.upload_session.proofs.OneState.{same-runs}
use Rattle.upload_session.proofs.laws.chunks_tell_the_runs.Goals as goal

pub returns : goal.returns
returns g c = same-runs g.C.ChunkRange
