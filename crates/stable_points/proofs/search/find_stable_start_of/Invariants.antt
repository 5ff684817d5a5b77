use Rattle.std.proofs.Common.{◌≤◌, map}
use Rattle.stable_points.proofs.StablePoints.Loops.{NoneSoFar}
use Rattle.stable_points.proofs.search.find_stable_start_of.Given as goal

abbrev pub invariant-scan : goal.invariant-scan
invariant-scan g l = record { since : l.scan.since_cut ≤ l.i; so_far : NoneSoFar (map g.T.AsNode.node_of l.nodes) l.i l.scan }
