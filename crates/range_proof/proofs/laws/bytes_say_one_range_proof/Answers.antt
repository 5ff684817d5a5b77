use Rattle.range_proof.proofs.BytesOf.{one_said, said_kept}
use Rattle.range_proof.proofs.laws.bytes_say_one_range_proof.Goals as goal

pub returns-clause-one : goal.returns-clause-one
returns-clause-one c = one_said

pub returns-clause-kept : goal.returns-clause-kept
returns-clause-kept c = said_kept
