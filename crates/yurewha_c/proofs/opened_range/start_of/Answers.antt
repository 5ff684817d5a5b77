use Rattle.std.proofs.Common.{rules}
use Rattle.yurewha_c.proofs.opened_range.start_of.Goals as goal

pub returns-clause-read : goal.returns-clause-read
returns-clause-read g = search rules

pub returns-clause-sound : goal.returns-clause-sound
returns-clause-sound g c = search rules

pub returns-clause-sound_for_root : goal.returns-clause-sound_for_root
returns-clause-sound_for_root g c = search rules
