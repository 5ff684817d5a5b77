use Rattle.std.proofs.Common.{◌≤◌, length, sym, ap, subst, arith}
use Rattle.std.proofs.lemmas.List.Elements.{All-get_or}
use Rattle.level_nodes.specs.Level.{Level}
use Rattle.range_proof.proofs.BytesOf.{counts_more}
use Rattle.range_proof.proofs.bytes.put_counts.Goals as goal

pub overflow_cast-left : goal.overflow_cast-left
overflow_cast-left g c =
    let few = subst (λ (l : Level). length l.left ≤ 8) (sym c.level-item.is)
    (All-get_or (λ (l : Level). length l.left ≤ 8) c.args.levels.now c.levels.level-index c.level-item.result c.levels-test.true c.requires.left) in
    omega (arith, ap length c.left.ensures)

pub overflow_cast-right : goal.overflow_cast-right
overflow_cast-right g c =
    let few = subst (λ (l : Level). length l.right ≤ 8) (sym c.level-item.is)
    (All-get_or (λ (l : Level). length l.right ≤ 8) c.args.levels.now c.levels.level-index c.level-item.result c.levels-test.true c.requires.right) in
    omega (arith, ap length c.right.ensures)

pub levels-preserved : goal.levels-preserved
levels-preserved g c =
    counts_more c.args.levels.now c.levels.level-index c.level-item.result c.args.bytes.now.items c.levels.bytes.items c.push.new.self.items
    c.push-in-levels.new.self.items _ _ c.levels-test.true c.level-item.is (ap length c.left.ensures) (ap length c.right.ensures)
    c.levels.invariant c.in_ok-push.ensures.items c.in_ok-push-2.ensures.items
