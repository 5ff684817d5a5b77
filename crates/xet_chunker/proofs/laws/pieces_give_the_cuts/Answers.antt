use Rattle.xet_chunker.proofs.Cuts.Machines.{pieces_chosen}
use Rattle.xet_chunker.proofs.laws.pieces_give_the_cuts.Goals as goal

pub returns : goal.returns
returns c = pieces_chosen
