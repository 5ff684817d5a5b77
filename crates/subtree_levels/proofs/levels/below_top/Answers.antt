use Rattle.std.proofs.Common.{◌-◌, length, arith}
use Rattle.subtree_levels.proofs.OfLevels.Reading.{below_top-take}
use Rattle.subtree_levels.proofs.levels.below_top.Goals as goal

pub returns-in-len1-up : goal.returns-in-len1-up
returns-in-len1-up g c = let some = c.in-len1-up.len_at_least in below_top-take c.args.levels.now (length c.args.levels.now - 1) (omega arith)
