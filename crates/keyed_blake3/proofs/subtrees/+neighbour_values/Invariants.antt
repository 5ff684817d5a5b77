use Rattle.keyed_blake3.proofs.subtrees.+neighbour_values.Given as goal

abbrev pub decreases-neighbour_values : goal.decreases-neighbour_values
decreases-neighbour_values g l = l.size
