use Rattle.std.proofs.Common.{List, length, ap, ◌∙◌}
use Rattle.xet_roots.specs.Groups.{Node}
use Rattle.subtree_levels.specs.Levels.{Level}
use Rattle.subtree_levels.proofs.OfLevels.Reading.{top_nodes-left}
use Rattle.subtree_levels.proofs.level_rules.top_len.Goals as goal

pub returns : goal.returns
returns g c = ap (λ (nodes : List Node). length nodes) (c.left.ensures ∙ ap (λ (level : Level). level.left) c.top.ensures ∙ top_nodes-left c.args.levels.now c.requires.no_right)
