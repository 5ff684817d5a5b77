use Rattle.std.proofs.Common.{◌≡◌, drop}
use Rattle.xet_chunker.specs.Gear.{gear_after}
use Rattle.xet_chunker.proofs.gear.gear_after.Given as goal

abbrev pub invariant-bytes : goal.invariant-bytes
invariant-bytes l = gear_after l.fn.gear l.bytes ≡ gear_after l.after (drop l.i l.bytes)
