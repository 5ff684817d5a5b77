use Rattle.upload_session.specs.Hashes.{hashes_of}
use Rattle.upload_session.proofs.Hashes.{new_where_known}
use Rattle.upload_session.proofs.kept_hashes.SeenHashesKeptHashes.keep.Goals as goal

pub returns-in-Ok-clause-new : goal.returns-in-Ok-clause-new
returns-in-Ok-clause-new g c known has =
    new_where_known c.args.self.now.hashes (hashes_of c.args.chunks.now) c.keep_into.new.new.items known
    c.in-Ok.ensures.each_once c.in-Ok.ensures.among has
