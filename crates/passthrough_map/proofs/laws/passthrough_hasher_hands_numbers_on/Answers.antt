use Rattle.passthrough_map.proofs.Hasher.Overwriting.{fed-number, overwrite_low-none}
use Rattle.passthrough_map.proofs.laws.passthrough_hasher_hands_numbers_on.Goals as goal

pub returns-clause-number : goal.returns-clause-number
returns-clause-number c = fed-number

pub returns-clause-none : goal.returns-clause-none
returns-clause-none c = overwrite_low-none
