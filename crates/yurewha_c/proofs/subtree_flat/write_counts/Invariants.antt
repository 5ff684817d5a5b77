use Rattle.std.proofs.Common.{◌≡◌, drop, length, map, take}
use Rattle.xet_merkle.specs.FlatLevels.{count_of}
use Rattle.yurewha_c.specs.FlatLists.{counts_of}
use Rattle.yurewha_c.proofs.subtree_flat.write_counts.Given as goal

abbrev pub invariant-levels : goal.invariant-levels
invariant-levels l = record {
  written : counts_of (take l.i l.levels) ≡ map count_of (take l.i l.subtree.levels);
  rest : drop (length l.subtree.levels) l.levels ≡ drop (length l.subtree.levels) l.initial.levels;
  len : length l.levels ≡ length l.initial.levels;
}
