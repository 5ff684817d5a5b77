use Rattle.stable_points.proofs.StablePoints.Triples.{stable_at_triples}
use Rattle.stable_points.proofs.laws.stable_points_are_triples.Goals as goal

pub returns : goal.returns
returns c = stable_at_triples
