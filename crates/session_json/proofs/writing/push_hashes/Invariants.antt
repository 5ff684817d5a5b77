use Rattle.std.proofs.Common.{drop, map, ◌++◌}
use Rattle.serde_json.specs.Written.{items_text}
use Rattle.serde_json.specs.View.{items_of}
use Rattle.session_json.specs.SessionJson.{hash_json}
use Rattle.session_json.proofs.Text.{Lacks}
use Rattle.session_json.proofs.writing.push_hashes.Given as goal

abbrev pub invariant-hashes : goal.invariant-hashes
invariant-hashes l = Lacks hash_json (l.initial.text.items ++ items_text l.initial.later (items_of (map hash_json l.hashes))) l.text.items l.later (drop l.hash-index l.hashes)
