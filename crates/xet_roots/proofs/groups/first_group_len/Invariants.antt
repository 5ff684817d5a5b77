use Rattle.xet_roots.proofs.Grouping.FirstGroup.{NoCutBelow}
use Rattle.xet_roots.proofs.groups.first_group_len.Given as goal

abbrev pub invariant-scan : goal.invariant-scan
invariant-scan l = NoCutBelow l.nodes l.i
