use Rattle.std.proofs.Common.{◌≡◌, ◌+◌, ◌/◌, ◌%◌, arith, refl, sym}
use Rattle.std.proofs.Math.Nat.{one-mul}
use Rattle.keyed_blake3.specs.Blake3.{after_blocks}
use Rattle.keyed_blake3.specs.Steps.Tree.{IsWaiting, subtree_at}
use Rattle.keyed_blake3.proofs.Blake3.Absorbing.{chunk_done, chunk_goes_on}
use Rattle.keyed_blake3.proofs.tree.Tree.absorb.Goals as goal

pub returns-then-place : goal.returns-then-place
unfolding after_blocks
returns-then-place c = λ key m held fits e.
    let n = c.args.number in
    let next : (n + 1) / 16 ≡ n / 16 + 1 = omega arith in
    let start : (n + 1) % 16 ≡ 0 = omega arith in
    let chunk = chunk_done key c.args.self.now n m c.args.block.now held c.if-place.true fits e in
    let value : c.compress_block-value.result ≡ subtree_at c.args.self.now.key 0 (n / 16) m = rw (held.0, c.compress_block-value.ensures) chunk in
    let pushed : IsWaiting c.args.self.now.key c.add_subtree_value.new.cv_stack (n / 16 + 1) m =
    c.add_subtree_value.ensures.joined refl 0 (n / 16) m (sym (one-mul (n / 16))) (rw held.0 held.2) value (omega arith) (omega arith) in
    (held.0, rw start held.0, rw (next, ← held.0) pushed)

pub returns-else-place : goal.returns-else-place
returns-else-place c = λ key m held fits e.
    let n = c.args.number in
    let next : (n + 1) / 16 ≡ n / 16 = omega arith in
    let value = chunk_goes_on key c.args.self.now n m c.args.block.now held (omega arith) fits e in
    (held.0, rw (c.compress_block-self.ensures, c.start_flag-flags.ensures) value, rw next held.2)
