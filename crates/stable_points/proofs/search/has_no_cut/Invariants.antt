use Rattle.std.proofs.Common.{take}
use Rattle.stable_points.specs.StablePoints.{NoCut}
use Rattle.stable_points.proofs.search.has_no_cut.Given as goal

abbrev pub invariant-nodes : goal.invariant-nodes
invariant-nodes l = NoCut (take l.i l.nodes)
