use Rattle.xet_chunker.proofs.Cuts.Parts.{all_sized}
use Rattle.xet_chunker.proofs.laws.chunks_are_sized.Goals as goal

pub returns : goal.returns
returns c = all_sized
