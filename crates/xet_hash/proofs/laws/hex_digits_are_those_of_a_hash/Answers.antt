use Rattle.xet_hash.proofs.Hash.Laws.{hash_of_digits}
use Rattle.xet_hash.proofs.laws.hex_digits_are_those_of_a_hash.Goals as goal

pub returns : goal.returns
returns c = hash_of_digits
