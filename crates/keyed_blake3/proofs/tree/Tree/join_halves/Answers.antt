use Rattle.std.proofs.Common.{◌≡◌, ℕ, ◌*◌, ◌/◌, ◌%◌, arith}
use Rattle.keyed_blake3.specs.Blake3.{after_blocks}
use Rattle.keyed_blake3.proofs.Blake3.Merging.{at_end_goes_on, at_end_joined}
use Rattle.keyed_blake3.proofs.tree.Tree.join_halves.Goals as goal

pub returns-then-chunks-eq1 : goal.returns-then-chunks-eq1
unfolding after_blocks
returns-then-chunks-eq1 c = λ key m held long.
    let n : ℕ = c.args.chunks in
    let whole : 16 * n / 16 ≡ n = omega arith in
    let start : 16 * n % 16 ≡ 0 = omega arith in (
      held.0,
      rw start held.1,
      rw (whole, c.parent_value.ensures, held.0)
          (at_end_joined key c.args.self.now.cv_stack n m held.2 c.requires (omega arith) long c.if-chunks-eq1.true),
    )

pub returns-else-chunks-eq1 : goal.returns-else-chunks-eq1
unfolding after_blocks
returns-else-chunks-eq1 c = λ key m held long.
    let n : ℕ = c.args.chunks in
    let whole : 16 * n / 16 ≡ n = omega arith in
    let start : 16 * n % 16 ≡ 0 = omega arith in (
      held.0,
      rw start held.1,
      rw whole (at_end_goes_on key c.args.self.now.cv_stack n m held.2 c.requires (omega arith) c.if-chunks-eq1.false),
    )
