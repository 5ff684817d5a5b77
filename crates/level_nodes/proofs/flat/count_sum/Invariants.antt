use Rattle.std.proofs.Common.{◌≡◌, ◌<◌, ◌^◌, take}
use Rattle.level_nodes.specs.FlatLevels.{count_sum}
use Rattle.level_nodes.proofs.flat.count_sum.Given as goal

abbrev pub invariant-sum : goal.invariant-sum
invariant-sum l = (l.sum ≡ count_sum (take l.left-index l.counts)) × (l.sum < 2 ^ 64)
