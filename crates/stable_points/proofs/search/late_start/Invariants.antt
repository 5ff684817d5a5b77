use Rattle.std.proofs.Common.{◌≡◌, ◌++◌, length, drop}
use Rattle.stable_points.proofs.StablePoints.Appending.{has_cut}
use Rattle.stable_points.proofs.search.late_start.Given as goal

-- the nodes that are left come before those that are passed
abbrev pub invariant-nodes : goal.invariant-nodes
invariant-nodes l = record {
  parts : l.rest ++ drop (length l.rest) l.nodes ≡ l.nodes;
  passed : l.has_cut ≡ has_cut (drop (length l.rest) l.nodes);
}

abbrev pub decreases-nodes : goal.decreases-nodes
decreases-nodes l = length l.rest
