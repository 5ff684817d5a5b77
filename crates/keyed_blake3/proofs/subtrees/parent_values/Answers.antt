use Rattle.keyed_blake3.specs.Blake3.{parent_value}
use Rattle.keyed_blake3.proofs.subtrees.parent_values.Goals as goal

pub returns-clause-lanes : goal.returns-clause-lanes
unfolding parent_value
returns-clause-lanes g c = λ j h. rw (c.pair_of_each.ensures j h) at (c.values_of_parents.ensures.lanes j h)
