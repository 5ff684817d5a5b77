use Rattle.std.proofs.Common.{◌++◌, ◌∷◌, [], Bool, List, ℕ, codes, map, ap, ◌∙◌}
use Rattle.json.specs.Print.{escape_byte}
use Rattle.serde_json.specs.Data.{array, boolean}
use Rattle.serde_json.specs.View.{items_of}
use Rattle.serde_json.specs.Written.{compact_text}
use Rattle.level_nodes.specs.FlatLevels.{count_of, flat_nodes}
use Rattle.level_nodes.specs.NodeJson.{nodes_json}
use Rattle.xet_merkle.specs.SubtreeJson.{counts_json}
use Rattle.session_json.proofs.Text.{joined_nine}
use Rattle.session_json.proofs.subtree_text.push_subtree.Goals as goal

pub returns : goal.returns
unfolding escape_byte
returns c =
    let text : List ℕ = c.args.text.now.items in
    let subtree = c.args.subtree.now in
    let truth : Bool → List ℕ = λ b. compact_text (boolean b) in
    joined_nine text (123 ∷ 34 ∷ codes "at_end" ++ 34 ∷ 58 ∷ []) (truth subtree.at_end) (44 ∷ 34 ∷ codes "at_start" ++ 34 ∷ 58 ∷ []) (truth subtree.at_start)
    (44 ∷ 34 ∷ codes "levels" ++ 34 ∷ 58 ∷ []) (compact_text (array (items_of (map counts_json (map count_of subtree.levels)))))
    (44 ∷ 34 ∷ codes "nodes" ++ 34 ∷ 58 ∷ []) (compact_text (nodes_json (flat_nodes subtree.levels []))) (125 ∷ [])
    c.extend_from_slice.new.self.items c.push_truth.new.text.items c.extend_from_slice-2.new.self.items c.push_truth-2.new.text.items
    c.extend_from_slice-3.new.self.items c.push_levels.new.text.items c.extend_from_slice-4.new.self.items c.push_sides.new.text.items c.push.new.self.items
    c.in_ok-extend_from_slice.ensures.items
    (c.in_ok-push_truth.ensures ∙ ap (λ (b : Bool). c.extend_from_slice.new.self.items ++ truth b) c.at_end.ensures)
    c.in_ok-extend_from_slice-2.ensures.items
    (c.in_ok-push_truth-2.ensures ∙ ap (λ (b : Bool). c.extend_from_slice-2.new.self.items ++ truth b) c.at_start.ensures)
    c.in_ok-extend_from_slice-3.ensures.items c.in_ok-push_levels.ensures c.in_ok-extend_from_slice-4.ensures.items c.in_ok-push_sides.ensures c.in_ok-push.ensures.items
