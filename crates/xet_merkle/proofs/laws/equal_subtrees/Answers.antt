use Rattle.subtree_levels.specs.Steps.SubtreeEquality.{same_subtree-decides}
use Rattle.xet_merkle.proofs.laws.equal_subtrees.Goals as goal

pub returns : goal.returns
returns c = same_subtree-decides
