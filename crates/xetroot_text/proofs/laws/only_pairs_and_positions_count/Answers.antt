use Rattle.xetroot_text.proofs.Separators.{same-pairs, separator-anywhere}
use Rattle.xetroot_text.proofs.laws.only_pairs_and_positions_count.Goals as goal

pub returns-clause-pairs : goal.returns-clause-pairs
returns-clause-pairs c = same-pairs

pub returns-clause-separators : goal.returns-clause-separators
returns-clause-separators c = separator-anywhere
