use Rattle.std.proofs.Common.{take}
use Rattle.stable_points.specs.StablePoints.{NoCut}
use Rattle.subtree_levels.proofs.sides.begins_stable.Given as goal

abbrev pub invariant-nodes : goal.invariant-nodes
invariant-nodes l = NoCut (take l.i l.nodes)
