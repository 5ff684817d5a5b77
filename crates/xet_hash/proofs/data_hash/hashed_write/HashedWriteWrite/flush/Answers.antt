use Rattle.xet_hash.specs.HashedWrite.{HoldsWritten}
use Rattle.xet_hash.proofs.data_hash.hashed_write.HashedWriteWrite.flush.Goals as goal

pub returns-clause-message : goal.returns-clause-message
unfolding HoldsWritten
returns-clause-message g c = λ m holds. holds
