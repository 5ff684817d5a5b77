use Rattle.xet_hash.proofs.Hash.Laws.{IsHash-hash_of, bytes_of-hash_of}
use Rattle.xet_hash.proofs.laws.bytes_read_back_from_hash.Goals as goal

pub returns-clause-hash : goal.returns-clause-hash
returns-clause-hash c = IsHash-hash_of

pub returns-clause-back : goal.returns-clause-back
returns-clause-back c = bytes_of-hash_of
