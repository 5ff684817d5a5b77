use Rattle.std.proofs.Common.{◌≡◌, take}
use Rattle.std.specs.Map.{keys_of}
use Rattle.upload_session.proofs.kept_hashes.SeenHashes.to_vec.Given as goal

abbrev pub invariant-entries : goal.invariant-entries
invariant-entries g l = l.hashes.items ≡ take l.hash-index (keys_of l.hash-items)
