use Rattle.std.proofs.Common.{◌≡◌, not, ◌&&◌, is_some, take}
use Rattle.xet_hash.specs.FiniteMap.{value_at}
use Rattle.upload_session.specs.Hashes.{Hash, hash_eq, is_among}
use Rattle.upload_session.proofs.kept_hashes.SeenHashes.remove_all.Given as goal

abbrev pub invariant-hashes : goal.invariant-hashes
invariant-hashes g l = (hash : Hash) → is_some (value_at hash_eq l.self.hashes hash)
    ≡ (is_some (value_at hash_eq l.initial.self.hashes hash) && not (is_among (take l.hash-index l.hashes) hash))
