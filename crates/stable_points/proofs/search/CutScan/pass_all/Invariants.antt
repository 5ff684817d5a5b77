use Rattle.std.proofs.Common.{◌≡◌, take}
use Rattle.stable_points.specs.Steps.StableScan.{scan_after, completes_none}
use Rattle.stable_points.proofs.search.CutScan.pass_all.Given as goal

abbrev pub invariant-nodes : goal.invariant-nodes
invariant-nodes l = record {
  scan : l.self ≡ scan_after l.fn.self (take l.i l.nodes);
  none : l.none ≡ completes_none l.fn.self (take l.i l.nodes);
}
