use Rattle.std.proofs.Common.{rules}
use Rattle.yurewha_c.proofs.text.write_text.Goals as goal

pub returns-then-room-text-clause-written : goal.returns-then-room-text-clause-written
returns-then-room-text-clause-written g c = search rules

pub returns-then-room-text-clause-done : goal.returns-then-room-text-clause-done
returns-then-room-text-clause-done g c = search rules
