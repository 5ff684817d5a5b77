use Rattle.xet_chunker.proofs.Cuts.Parts.{in_parts}
use Rattle.xet_chunker.proofs.laws.candidates_of_parts.Goals as goal

pub returns : goal.returns
returns c = in_parts
