use Rattle.std.proofs.Common.{◌+◌, ◌≤◌, length}
use Rattle.stable_points.proofs.search.cut_before.Given as goal

abbrev pub invariant-nodes : goal.invariant-nodes
invariant-nodes g l = l.count + l.near ≤ length l.nodes

abbrev pub decreases-nodes : goal.decreases-nodes
decreases-nodes g l = l.count
