use Rattle.std.proofs.Common.{◌≡◌, ℕ, ◌+◌, ◌*◌, ◌/◌, arith, drop, take, refl, sym, ap, ◌∙◌}
use Rattle.std.proofs.Math.Nat.{one-mul}
use Rattle.keyed_blake3.specs.Steps.Tree.{IsWaiting, IsWaitingAtEnd, subtree_at}
use Rattle.keyed_blake3.proofs.Blake3.Absorbing.{chunk_done}
use Rattle.keyed_blake3.proofs.tree.Tree.end_with_block.Goals as goal

pub returns : goal.returns
returns c = λ key m held long is.
    let i : ℕ = c.args.chunk in
    let n : ℕ = 16 * i + 15 in
    let here : n / 16 ≡ i = omega arith in
    let place : 64 * n ≡ 1024 * i + 960 = omega arith in
    let done = chunk_done key c.args.self.now n m c.args.block.now held (omega arith) (omega arith) (is ∙ ap (λ (k : ℕ). take 64 (drop k m)) (sym place)) in
    let value : c.compress_block-value.result ≡ subtree_at c.args.self.now.key 0 i m = rw held.0 (c.compress_block-value.ensures ∙ (rw here at done)) in
    let waits : IsWaiting c.args.self.now.key c.args.self.now.cv_stack i m = rw held.0 (rw here at held.2) in
    let ended : IsWaitingAtEnd c.args.self.now.key c.add_subtree_value.new.cv_stack (i + 1) m =
    c.add_subtree_value.ensures.kept refl c.requires.some 0 i m (sym (one-mul i)) waits value (omega arith) (omega arith) in
    (held.0, held.0, rw (← held.0) ended)
