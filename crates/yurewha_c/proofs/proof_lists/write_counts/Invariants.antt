use Rattle.std.proofs.Common.{◌≡◌, drop, length, take}
use Rattle.yurewha_c.specs.FlatLists.{counts_of}
use Rattle.yurewha_c.proofs.proof_lists.write_counts.Given as goal

abbrev pub invariant-counts : goal.invariant-counts
invariant-counts l = record {
  written : counts_of (take l.i l.levels) ≡ take l.i l.counts;
  rest : drop (length l.counts) l.levels ≡ drop (length l.counts) l.initial.levels;
  len : length l.levels ≡ length l.initial.levels;
}
