use Rattle.std.proofs.Common.{◌≤◌, List, IfSome, map}
use Rattle.xet_roots.specs.Groups.{Node}
use Rattle.stable_points.specs.Steps.StableScan.{IsFront}
use Rattle.stable_points.proofs.StablePoints.Loops.{LastSoFar}
use Rattle.stable_points.proofs.search.last_stable_of.Given as goal

abbrev pub invariant-scan : goal.invariant-scan
invariant-scan g l = record {
  since : l.scan.since_cut ≤ l.i;
  bound : IfSome l.found (λ p. p ≤ l.i);
  so_far : (front : List Node) → IsFront l.after_cut front → LastSoFar (map g.T.AsNode.node_of l.nodes) l.i l.scan l.found front;
}
