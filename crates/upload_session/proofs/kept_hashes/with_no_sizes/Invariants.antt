use Rattle.std.proofs.Common.{◌≡◌, take}
use Rattle.upload_session.specs.Hashes.{hashes_of}
use Rattle.upload_session.proofs.kept_hashes.with_no_sizes.Given as goal

abbrev pub invariant-hashes : goal.invariant-hashes
invariant-hashes g l = hashes_of l.chunks.items ≡ take l.hash-index l.hashes
