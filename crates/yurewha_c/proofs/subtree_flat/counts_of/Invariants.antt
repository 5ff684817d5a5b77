use Rattle.std.proofs.Common.{◌≡◌, take}
use Rattle.yurewha_c.specs.FlatLists.{counts_of}
use Rattle.yurewha_c.proofs.subtree_flat.counts_of.Given as goal

abbrev pub invariant-levels : goal.invariant-levels
invariant-levels l = l.counts.items ≡ counts_of (take l.level-index l.levels)
