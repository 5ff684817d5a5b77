use Rattle.std.proofs.Common.{◌≡◌, map, take}
use Rattle.level_nodes.specs.FlatLevels.{count_of}
use Rattle.range_proof.proofs.flat.counts_of.Given as goal

abbrev pub invariant-counts : goal.invariant-counts
invariant-counts g l = l.counts.items ≡ map count_of (take l.level-index l.levels)
