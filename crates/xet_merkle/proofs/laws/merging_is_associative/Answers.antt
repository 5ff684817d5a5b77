use Rattle.xet_merkle.proofs.Merging.Ranges.{associative}
use Rattle.xet_merkle.proofs.laws.merging_is_associative.Goals as goal

pub returns : goal.returns
returns c = associative
