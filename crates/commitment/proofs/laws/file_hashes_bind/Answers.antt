use Rattle.commitment.proofs.Commitment.Levels.{same_file_hashes}
use Rattle.commitment.proofs.laws.file_hashes_bind.Goals as goal

pub returns : goal.returns
returns c = same_file_hashes
