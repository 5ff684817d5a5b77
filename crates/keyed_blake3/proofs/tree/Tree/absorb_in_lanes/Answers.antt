use Rattle.std.proofs.Common.{◌≡◌, ℕ, ◌+◌, ◌*◌, ◌/◌, ◌≤◌, length, take, drop, arith, ap, refl, subst, ◌∙◌, length-drop}
use Rattle.std.proofs.Math.Nat.{mul-le-mul_right}
use Rattle.std.proofs.lemmas.List.{length-take-le}
use Rattle.std.proofs.lemmas.Nat.{pow_pos}
use Rattle.keyed_blake3.specs.Steps.Tree.{IsAbsorbed, IsEnded}
use Rattle.keyed_blake3.proofs.Blake3.Subtrees.{batch_fits}
use Rattle.keyed_blake3.proofs.tree.Tree.absorb_in_lanes.Goals as goal

pub returns-clause-some : goal.returns-clause-some
returns-clause-some g c =
    let len : ℕ = c.subtree_len-len.result in
    let count : ℕ = c.min-count.result in
    let fits : 1024 * (len * count) ≤ length c.args.rest.now = omega (arith, batch_fits g.row.L c.subtree_len-len.ensures.len.0 len count c.args.whole c.subtree_len-len.ensures.len.1 (omega arith) (omega arith) c.subtree_len-len.ensures.len.3) in
    let some : 1 * count ≤ len * count = mul-le-mul_right count (omega (arith, c.subtree_len-len.ensures.len.1, pow_pos c.subtree_len-len.ensures.len.0)) in
    omega (arith, length-take-le (1024 * (len * count)) c.args.rest.now fits, some, g.met.W.Width.lanes.0)

pub returns-then-chunks-rest-clause-ended : goal.returns-then-chunks-rest-clause-ended
returns-then-chunks-rest-clause-ended g c = λ whole key m held is.
    let n : ℕ = c.args.number in
    let size : ℕ = c.subtree_len-len.result * c.min-count.result in
    let start : n ≡ 16 * (n / 16) = omega arith in
    let place : 64 * n ≡ 1024 * (n / 16) = omega arith in
    let fits : 1024 * size ≤ length c.args.rest.now = omega (arith, batch_fits g.row.L c.subtree_len-len.ensures.len.0 c.subtree_len-len.result c.min-count.result c.args.whole c.subtree_len-len.ensures.len.1 (omega arith) (omega arith) c.subtree_len-len.ensures.len.3) in
    let bytes : length (take (1024 * size) c.args.rest.now) ≡ 1024 * size = length-take-le (1024 * size) c.args.rest.now fits in
    let long : 1024 * (n / 16 + size) ≤ length m = omega (arith, ap length is ∙ length-drop (64 * n) m, fits) in
    let begins : IsAbsorbed key c.args.self.now (16 * (n / 16)) m = subst (λ (k : ℕ). IsAbsorbed key c.args.self.now k m) start held in
    let end : n / 16 + size ≡ (n + length (take (1024 * size) c.args.rest.now) / 64) / 16 = omega (arith, bytes) in
    subst (λ (k : ℕ). IsEnded key c.absorb_subtrees.new.self k m) end
    (c.absorb_subtrees.ensures.ended refl key m begins long (ap (take (1024 * size)) (is ∙ ap (λ (k : ℕ). drop k m) place)))

pub returns-clause-absorbed : goal.returns-clause-absorbed
returns-clause-absorbed g c = λ more key m held is.
    let n : ℕ = c.args.number in
    let size : ℕ = c.subtree_len-len.result * c.min-count.result in
    let start : n ≡ 16 * (n / 16) = omega arith in
    let place : 64 * n ≡ 1024 * (n / 16) = omega arith in
    let fits : 1024 * size ≤ length c.args.rest.now = omega (arith, batch_fits g.row.L c.subtree_len-len.ensures.len.0 c.subtree_len-len.result c.min-count.result c.args.whole c.subtree_len-len.ensures.len.1 (omega arith) (omega arith) c.subtree_len-len.ensures.len.3) in
    let bytes : length (take (1024 * size) c.args.rest.now) ≡ 1024 * size = length-take-le (1024 * size) c.args.rest.now fits in
    let long : 1024 * (n / 16 + size) ≤ length m = omega (arith, ap length is ∙ length-drop (64 * n) m, fits) in
    let begins : IsAbsorbed key c.args.self.now (16 * (n / 16)) m = subst (λ (k : ℕ). IsAbsorbed key c.args.self.now k m) start held in
    let end : 16 * (n / 16 + size) ≡ n + length (take (1024 * size) c.args.rest.now) / 64 = omega (arith, bytes) in
    subst (λ (k : ℕ). IsAbsorbed key c.absorb_subtrees-2.new.self k m) end
    (c.absorb_subtrees-2.ensures.absorbed refl key m begins long (ap (take (1024 * size)) (is ∙ ap (λ (k : ℕ). drop k m) place)))
