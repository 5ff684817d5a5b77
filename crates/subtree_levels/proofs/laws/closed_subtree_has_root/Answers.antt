use Rattle.xet_roots.specs.Roots.{parent}
use Rattle.subtree_levels.proofs.Canonical.OneSubtree.{closed_root}
use Rattle.subtree_levels.proofs.laws.closed_subtree_has_root.Goals as goal

pub returns : goal.returns
returns c = λ nodes levels parents canonical. closed_root parent canonical
