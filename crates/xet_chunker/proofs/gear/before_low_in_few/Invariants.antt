use Rattle.std.proofs.Common.{◌≡◌, ◌+◌, drop, take}
use Rattle.xet_chunker.specs.Gear.{gear_after}
use Rattle.xet_chunker.specs.Steps.Scan.{before_low}
use Rattle.xet_chunker.proofs.gear.before_low_in_few.Given as goal

abbrev pub invariant-bytes : goal.invariant-bytes
invariant-bytes l = record {
  count : before_low l.fn.gear l.bytes ≡ l.i + before_low l.after (drop l.i l.bytes);
  passed : gear_after l.fn.gear (take l.i l.bytes) ≡ l.after;
  gear : gear_after l.fn.gear l.bytes ≡ gear_after l.after (drop l.i l.bytes);
}
