use Rattle.stable_points.proofs.StablePoints.Boundaries.{boundary_inside, boundary_after_cut}
use Rattle.stable_points.proofs.laws.stable_boundaries.Goals as goal

pub returns-clause-inside : goal.returns-clause-inside
returns-clause-inside c = boundary_inside

pub returns-clause-after_cut : goal.returns-clause-after_cut
returns-clause-after_cut c = boundary_after_cut
