use Rattle.commitment.proofs.Commitment.Levels.{same_roots}
use Rattle.commitment.proofs.laws.roots_bind.Goals as goal

pub returns : goal.returns
returns c = same_roots
