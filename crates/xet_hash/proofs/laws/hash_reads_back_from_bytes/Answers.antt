use Rattle.xet_hash.proofs.Hash.Laws.{IsHashBytes-bytes_of, hash_of-bytes_of}
use Rattle.xet_hash.proofs.laws.hash_reads_back_from_bytes.Goals as goal

pub returns-clause-bytes : goal.returns-clause-bytes
returns-clause-bytes c = IsHashBytes-bytes_of

pub returns-clause-back : goal.returns-clause-back
returns-clause-back c = hash_of-bytes_of
