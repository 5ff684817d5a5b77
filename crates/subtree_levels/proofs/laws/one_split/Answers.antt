use Rattle.subtree_levels.proofs.Canonical.Splits.{same_split}
use Rattle.subtree_levels.proofs.laws.one_split.Goals as goal

pub returns : goal.returns
returns c = same_split
