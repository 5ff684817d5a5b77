use Rattle.std.proofs.Common.{rules}
use Rattle.stable_points.proofs.search.is_stable_gap.Goals as goal

pub returns : goal.returns
returns g = search rules
