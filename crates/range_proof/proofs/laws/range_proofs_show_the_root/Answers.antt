use Rattle.range_proof.proofs.Completeness.Proved.{shows_root}
use Rattle.range_proof.proofs.laws.range_proofs_show_the_root.Goals as goal

pub returns : goal.returns
returns c = λ nodes first end proof root h is_root some. shows_root nodes first end proof h root is_root some
