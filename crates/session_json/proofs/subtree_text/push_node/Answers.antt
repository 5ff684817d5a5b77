use Rattle.std.proofs.Common.{◌++◌, ◌∷◌, [], List, ℕ, codes, decimal, sym, ap, ◌∙◌}
use Rattle.std.proofs.lemmas.List.{append_assoc, append-nil}
use Rattle.json.specs.Print.{escape, escape_byte}
use Rattle.xet_hash.specs.Hash.{hex_text}
use Rattle.session_json.proofs.HexText.{escape-hex_text}
use Rattle.session_json.proofs.Text.{joined}
use Rattle.session_json.proofs.subtree_text.push_node.Goals as goal

pub returns : goal.returns
unfolding escape_byte
returns c =
    let text : List ℕ = c.args.text.now.items in
    let words : List ℕ = c.args.node.now.0 in
    let hex : List ℕ = hex_text words in
    let head : List ℕ = 123 ∷ 34 ∷ codes "hash" ++ 34 ∷ 58 ∷ 34 ∷ [] in
    let between : List ℕ = 34 ∷ 44 ∷ 34 ∷ codes "size" ++ 34 ∷ 58 ∷ [] in
    let tail : List ℕ = 44 ∷ 34 ∷ codes "size" ++ 34 ∷ 58 ∷ (decimal c.args.node.now.1 ++ 125 ∷ []) in
    let end = sym (append-nil c.push.new.self.items) in
    let escaped = ap (λ (h : List ℕ). h ++ 34 ∷ tail) (sym (escape-hex_text words)) ∙ sym (append_assoc (escape hex) (34 ∷ []) tail) in
    joined text head hex between (decimal c.args.node.now.1) (125 ∷ []) [] []
    c.extend_from_slice.new.self.items c.extend_from_slice-2.new.self.items c.extend_from_slice-3.new.self.items c.push_number.new.text.items
    c.push.new.self.items c.push.new.self.items c.push.new.self.items
    c.in_ok-extend_from_slice.ensures.items
    (c.in_ok-extend_from_slice-2.ensures.items ∙ ap (λ (h : List ℕ). c.extend_from_slice.new.self.items ++ h) c.hex_digits.ensures.text)
    c.in_ok-extend_from_slice-3.ensures.items c.in_ok-push_number.ensures c.in_ok-push.ensures.items end end
    ∙ ap (λ (t : List ℕ). text ++ (head ++ t)) escaped
