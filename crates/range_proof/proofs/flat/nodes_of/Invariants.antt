use Rattle.std.proofs.Common.{◌≡◌, ◌++◌, List, length, take}
use Rattle.level_nodes.specs.Level.{Level}
use Rattle.level_nodes.specs.FlatLevels.{left_nodes, right_nodes}
use Rattle.range_proof.proofs.flat.nodes_of.Given as goal

abbrev pub invariant-lefts : goal.invariant-lefts
invariant-lefts g l = l.nodes.items ≡ left_nodes (take l.level-index l.levels)

abbrev pub invariant-rights : goal.invariant-rights
invariant-rights g l = record {
  done : List Level;
  parts : l.levels ≡ l.rest ++ done;
  nodes : l.nodes.items ≡ left_nodes l.levels ++ (l.chunks ++ right_nodes done);
}

abbrev pub decreases-rights : goal.decreases-rights
decreases-rights g l = length l.rest
