use Rattle.std.proofs.Common.{rules}
use Rattle.upload_session.proofs.kept_hashes.NoHashesKeptHashes.keep.Goals as goal

pub returns-clause-new : goal.returns-clause-new
returns-clause-new g c = search rules
