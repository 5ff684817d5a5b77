use Rattle.std.proofs.Common.{◌≡◌, ◌+◌, ◌-◌, ◌≤◌, drop, length, take}
use Rattle.xet_chunker.specs.Gear.{gear_after}
use Rattle.xet_chunker.specs.Steps.Scan.{before_low}
use Rattle.xet_chunker.proofs.gear.pass_fours.Given as goal

abbrev pub invariant-fours : goal.invariant-fours
invariant-fours l = record {
  fits : l.done ≤ length l.bytes;
  count : before_low l.fn.gear l.bytes ≡ l.done + before_low l.after (drop l.done l.bytes);
  passed : gear_after l.fn.gear (take l.done l.bytes) ≡ l.after;
  gear : gear_after l.fn.gear l.bytes ≡ gear_after l.after (drop l.done l.bytes);
}

abbrev pub decreases-fours : goal.decreases-fours
decreases-fours l = length l.bytes - l.done
