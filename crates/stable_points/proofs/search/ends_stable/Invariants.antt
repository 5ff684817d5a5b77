use Rattle.std.proofs.Common.{◌≤◌, take}
use Rattle.stable_points.proofs.StablePoints.Scan.{IsScanned}
use Rattle.stable_points.proofs.search.ends_stable.Given as goal

abbrev pub invariant-scan : goal.invariant-scan
invariant-scan l = record {
  since : l.scan.since_cut ≤ l.i;
  scanned : IsScanned (take l.i l.nodes) l.scan.has_cut l.scan.ends_stable l.scan.since_cut;
}
