use Rattle.subtree_levels.proofs.Rules.LevelRules.{right_side_found}
use Rattle.subtree_levels.proofs.sides.is_right_side.Goals as goal

pub returns-then-begins_stable : goal.returns-then-begins_stable
returns-then-begins_stable c =
    let begins = c.begins_stable.ensures.0 c.if-begins_stable.true in
    right_side_found c.args.nodes.now c.last_stable.result c.last_stable.ensures.last c.last_stable.ensures.none begins c.is_none.result c.is_none.ensures
