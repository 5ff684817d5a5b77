use Rattle.std.proofs.Common.{◌++◌, drop, false, map}
use Rattle.serde_json.specs.Written.{items_text}
use Rattle.serde_json.specs.View.{items_of}
use Rattle.level_nodes.specs.FlatLevels.{count_of}
use Rattle.xet_merkle.specs.SubtreeJson.{counts_json}
use Rattle.session_json.proofs.Text.{Lacks}
use Rattle.session_json.proofs.subtree_text.push_levels.Given as goal

abbrev pub invariant-levels : goal.invariant-levels
invariant-levels l =
    Lacks counts_json (l.initial.text.items ++ items_text false (items_of (map counts_json (map count_of l.subtree.levels)))) l.text.items l.later
    (drop l.level (map count_of l.subtree.levels))
