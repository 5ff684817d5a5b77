use Rattle.std.proofs.Common.{◌-◌, ◌≤◌, length}
use Rattle.stable_points.proofs.search.find_stable_end_of.Given as goal

abbrev pub invariant-near : goal.invariant-near
invariant-near g l = 1 ≤ l.near

abbrev pub decreases-near : goal.decreases-near
decreases-near g l = length l.nodes - l.near
