use Rattle.std.proofs.Common.{◌∙◌}
use Rattle.upload_session.proofs.Hashes.{length-keys}
use Rattle.upload_session.proofs.kept_hashes.SeenHashes.len.Goals as goal

pub returns : goal.returns
returns g c = λ distinct knows once.
    c.len.ensures.entries ∙ length-keys c.args.self.now.hashes distinct c.len.ensures.map knows once
