use Rattle.std.proofs.Common.{◌++◌, ◌∷◌, [], List, ℕ, codes, map, sym, ap, ◌∙◌}
use Rattle.std.proofs.lemmas.List.{append-nil}
use Rattle.json.specs.Print.{escape_byte}
use Rattle.serde_json.specs.Data.{array}
use Rattle.serde_json.specs.View.{items_of}
use Rattle.serde_json.specs.Written.{compact_text}
use Rattle.session_json.specs.SessionJson.{hash_json, run_json}
use Rattle.session_json.proofs.Text.{joined}
use Rattle.session_json.proofs.writing.session_text.Goals as goal

pub returns : goal.returns
unfolding escape_byte
returns c =
    let runs : List ℕ = compact_text (array (items_of (map run_json c.args.session.now.runs))) in
    let hashes : List ℕ = compact_text (array (items_of (map hash_json c.args.hashes.now))) in
    let head : List ℕ = 123 ∷ 34 ∷ codes "runs" ++ 34 ∷ 58 ∷ [] in
    let end = sym (append-nil c.push.new.self.items) in
    joined [] head runs _ hashes (125 ∷ []) [] []
    c.extend_from_slice.new.self.items c.push_runs.new.text.items c.extend_from_slice-2.new.self.items c.push_hashes.new.text.items
    c.push.new.self.items c.push.new.self.items c.push.new.self.items
    (c.in_ok-extend_from_slice.ensures.items ∙ ap (λ t. t ++ head) c.new-text.ensures.items) c.in_ok-push_runs.ensures
    c.in_ok-extend_from_slice-2.ensures.items c.in_ok-push_hashes.ensures c.in_ok-push.ensures.items end end
