use Rattle.std.proofs.Common.{◌∷◌, [], List, ℕ, decimal}
use Rattle.json.specs.Print.{escape_byte}
use Rattle.serde_json.specs.Written.{compact_text}
use Rattle.xet_merkle.specs.SubtreeJson.{subtree_json}
use Rattle.session_json.proofs.Text.{joined}
use Rattle.session_json.proofs.writing.push_run.Goals as goal

pub returns : goal.returns
unfolding escape_byte
returns c =
    let text : List ℕ = c.args.text.now.items in
    joined text _ (decimal c.args.first) _ (decimal c.args.end) _ (compact_text (subtree_json c.args.range.now)) (125 ∷ [])
    c.extend_from_slice.new.self.items c.push_number.new.text.items c.extend_from_slice-2.new.self.items c.push_number-2.new.text.items
    c.extend_from_slice-3.new.self.items c.push_subtree.new.text.items c.push.new.self.items
    c.in_ok-extend_from_slice.ensures.items c.in_ok-push_number.ensures c.in_ok-extend_from_slice-2.ensures.items c.in_ok-push_number-2.ensures
    c.in_ok-extend_from_slice-3.ensures.items c.in_ok-push_subtree.ensures c.in_ok-push.ensures.items
