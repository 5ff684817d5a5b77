use Rattle.std.proofs.Common.{drop, map, ◌++◌}
use Rattle.serde_json.specs.Written.{items_text}
use Rattle.serde_json.specs.View.{items_of}
use Rattle.level_nodes.specs.NodeJson.{number_json}
use Rattle.session_json.proofs.Text.{Lacks}
use Rattle.session_json.proofs.writing.push_hash.Given as goal

abbrev pub invariant-words : goal.invariant-words
invariant-words l = Lacks number_json (l.initial.text.items ++ items_text l.initial.later (items_of (map number_json l.word-items))) l.text.items l.later (drop l.word-index l.word-items)
