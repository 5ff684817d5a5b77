use Rattle.range_proof.proofs.Completeness.Proved.{takes_chunks}
use Rattle.range_proof.proofs.laws.range_proofs_take_their_chunks.Goals as goal

pub returns : goal.returns
returns c = takes_chunks
