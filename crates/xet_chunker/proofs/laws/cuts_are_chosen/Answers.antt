use Rattle.xet_chunker.proofs.Cuts.Parts.{all_chosen}
use Rattle.xet_chunker.proofs.laws.cuts_are_chosen.Goals as goal

pub returns : goal.returns
returns c = all_chosen
