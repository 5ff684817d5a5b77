use Rattle.std.proofs.Common.{ap, ◌∙◌}
use Rattle.xet_hash.specs.Hash.{data_key, hash_of}
use Rattle.xet_hash.specs.HashedWrite.{HoldsWritten}
use Rattle.xet_hash.proofs.data_hash.hashed_write.HashedWrite.hash.Goals as goal

pub returns : goal.returns
unfolding HoldsWritten
returns g c = λ m holds. c.from.ensures.0 ∙ ap hash_of (c.finalize.ensures data_key m holds)
