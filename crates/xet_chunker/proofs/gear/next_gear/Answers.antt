use Rattle.xet_chunker.proofs.Cuts.Window.{one_byte}
use Rattle.xet_chunker.proofs.gear.next_gear.Goals as goal

pub returns : goal.returns
returns c = one_byte c.args.gear c.table_at.result c.args.byte c.table_at.ensures
