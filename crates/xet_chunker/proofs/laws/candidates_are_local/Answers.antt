use Rattle.xet_chunker.proofs.Cuts.Parts.{local}
use Rattle.xet_chunker.proofs.laws.candidates_are_local.Goals as goal

pub returns : goal.returns
returns c = local
