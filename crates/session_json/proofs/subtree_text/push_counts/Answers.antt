use Rattle.std.proofs.Common.{◌∷◌, [], List, ℕ, decimal, sym}
use Rattle.std.proofs.lemmas.List.{append-nil}
use Rattle.session_json.proofs.Text.{joined}
use Rattle.session_json.proofs.subtree_text.push_counts.Goals as goal

pub returns : goal.returns
returns c =
    let text : List ℕ = c.args.text.now.items in
    let end = sym (append-nil c.push-3.new.self.items) in
    joined text (91 ∷ []) (decimal c.args.left) (44 ∷ []) (decimal c.args.right) (93 ∷ []) [] []
    c.push.new.self.items c.push_number.new.text.items c.push-2.new.self.items c.push_number-2.new.text.items c.push-3.new.self.items
    c.push-3.new.self.items c.push-3.new.self.items c.in_ok-push.ensures.items c.in_ok-push_number.ensures c.in_ok-push-2.ensures.items
    c.in_ok-push_number-2.ensures c.in_ok-push-3.ensures.items end end
