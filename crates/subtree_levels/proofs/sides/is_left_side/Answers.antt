use Rattle.subtree_levels.proofs.Rules.LevelRules.{left_side_found}
use Rattle.subtree_levels.proofs.sides.is_left_side.Goals as goal

pub returns-then-ends_stable : goal.returns-then-ends_stable
returns-then-ends_stable c =
    let ends = c.ends_stable.ensures.0 c.if-ends_stable.true in
    left_side_found c.args.nodes.now c.find_stable_start.result c.find_stable_start.ensures.first c.find_stable_start.ensures.none ends c.is_none.result c.is_none.ensures
