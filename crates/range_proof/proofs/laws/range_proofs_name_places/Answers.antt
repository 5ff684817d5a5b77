use Rattle.range_proof.proofs.Completeness.Proved.{begins, file_size}
use Rattle.range_proof.proofs.laws.range_proofs_name_places.Goals as goal

pub returns-clause-begins : goal.returns-clause-begins
returns-clause-begins c = λ nodes first end proof k h within. begins nodes first end proof h k within

pub returns-clause-size : goal.returns-clause-size
returns-clause-size c = file_size
