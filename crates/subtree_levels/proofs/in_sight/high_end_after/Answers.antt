use Rattle.subtree_levels.proofs.Merging.LevelMerge.{high_after_found}
use Rattle.subtree_levels.proofs.in_sight.high_end_after.Goals as goal

pub returns-else-at_end-clause-high : goal.returns-else-at_end-clause-high
returns-else-at_end-clause-high c = rw (c.if-at_end.false, c.unwrap_or.ensures) (high_after_found c.last_stable.result c.args.nodes.now c.last_stable.ensures.last c.last_stable.ensures.none)
