use Rattle.subtree_levels.proofs.Canonical.Splits.{middle_some}
use Rattle.subtree_levels.proofs.laws.lower_end_below_upper_end.Goals as goal

pub returns : goal.returns
returns c = middle_some
