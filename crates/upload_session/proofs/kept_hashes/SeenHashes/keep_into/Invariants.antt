use Rattle.std.proofs.Common.{take}
use Rattle.upload_session.specs.Hashes.{hashes_of}
use Rattle.upload_session.proofs.Hashes.{KeepsSoFar}
use Rattle.upload_session.proofs.kept_hashes.SeenHashes.keep_into.Given as goal

abbrev pub invariant-chunks : goal.invariant-chunks
invariant-chunks g l = KeepsSoFar l.initial.self.hashes l.self.hashes l.new.items (take l.hash-index (hashes_of l.chunks))
