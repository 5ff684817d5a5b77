use Rattle.xet_merkle.proofs.Merging.Ranges.{neutral_after, neutral_before}
use Rattle.xet_merkle.proofs.laws.empty_range_is_neutral.Goals as goal

pub returns-clause-after : goal.returns-clause-after
returns-clause-after c = neutral_after

pub returns-clause-before : goal.returns-clause-before
returns-clause-before c = neutral_before
