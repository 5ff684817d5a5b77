use Rattle.subtree_levels.proofs.Canonical.Bounds.{few_nodes, few_levels}
use Rattle.subtree_levels.proofs.laws.canonical_subtree_bounds.Goals as goal

pub returns-clause-nodes : goal.returns-clause-nodes
returns-clause-nodes c = λ make at_start at_end nodes levels parents canonical. few_nodes make at_start at_end canonical

pub returns-clause-levels : goal.returns-clause-levels
returns-clause-levels c = λ make at_start at_end nodes levels parents n canonical e. few_levels make at_start at_end canonical n e
