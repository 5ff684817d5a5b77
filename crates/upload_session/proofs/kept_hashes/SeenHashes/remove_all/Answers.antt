use Rattle.std.proofs.Common.{sym}
use Rattle.upload_session.proofs.Hashes.{removed-next}
use Rattle.upload_session.proofs.kept_hashes.SeenHashes.remove_all.Goals as goal

pub hashes-preserved : goal.hashes-preserved
hashes-preserved g c =
    removed-next c.args.self.now.hashes c.hashes.self.hashes c.remove.new.self c.args.hashes.now c.hashes.hash-index c.hash-item.result
    c.hashes-test.true (sym c.hash-item.is) c.hashes.invariant c.remove.ensures.sets
