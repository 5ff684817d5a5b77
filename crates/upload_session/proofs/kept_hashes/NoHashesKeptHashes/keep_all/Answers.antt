use Rattle.std.proofs.Common.{[]}
use Rattle.upload_session.proofs.kept_hashes.NoHashesKeptHashes.keep_all.Goals as goal

pub returns-clause-others : goal.returns-clause-others
returns-clause-others g c = ([], tt)
