use Rattle.range_proof.proofs.Completeness.Proved.{shows_file_hash}
use Rattle.range_proof.proofs.laws.range_proofs_show_the_file_hash.Goals as goal

pub returns : goal.returns
returns c = λ nodes first end proof hash salt h is_hash some. shows_file_hash nodes first end proof h hash salt is_hash some
