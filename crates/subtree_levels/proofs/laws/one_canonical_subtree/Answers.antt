use Rattle.subtree_levels.proofs.Canonical.OneSubtree.{canonical_exists, IsCanonicalBy-unique}
use Rattle.subtree_levels.proofs.laws.one_canonical_subtree.Goals as goal

pub returns-clause-exists : goal.returns-clause-exists
returns-clause-exists c = canonical_exists

pub returns-clause-unique : goal.returns-clause-unique
returns-clause-unique c = λ make at_start at_end nodes levels others parents others_parents first second.
    IsCanonicalBy-unique make at_start at_end first second
