use Rattle.std.proofs.Common.{sym, ◌∙◌, arith}
use Rattle.xet_chunker.proofs.Cuts.Scanning.{gear_more, gear_all}
use Rattle.xet_chunker.proofs.gear.gear_after.Goals as goal

pub bytes-preserved : goal.bytes-preserved
bytes-preserved c = rw c.next_gear-after.ensures (c.bytes.invariant ∙ gear_more c.bytes.after c.args.bytes.now c.bytes.i (omega arith))

pub returns : goal.returns
returns c = sym (c.bytes.invariant ∙ gear_all c.bytes.after c.args.bytes.now c.bytes.i (omega arith))
