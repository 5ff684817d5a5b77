use Rattle.std.proofs.Common.{◌≤◌, length, ap, subst, arith, rules}
use Rattle.std.proofs.lemmas.List.Elements.{All-more}
use Rattle.level_nodes.specs.Level.{Level}
use Rattle.range_proof.proofs.proof_parts.have_few_beside.Goals as goal

pub levels-preserved : goal.levels-preserved
levels-preserved g c =
    let levels = c.args.levels.now in
    let i = c.levels.level-index in
    let level = c.level-item.result in
    let left_len = ap length c.left.ensures in
    let right_len = ap length c.right.ensures in
    let few_left : length c.left.result.now ≤ 8 = search rules in
    let few_right : length c.right.result.now ≤ 8 = search rules in
    let left : length level.left ≤ 8 = omega arith in
    let right : length level.right ≤ 8 = omega arith in
    record {
      left = All-more (λ (l : Level). length l.left ≤ 8) levels i level c.levels-test.true c.levels.invariant.left
          (subst (λ (l : Level). length l.left ≤ 8) c.level-item.is left);
      right = All-more (λ (l : Level). length l.right ≤ 8) levels i level c.levels-test.true c.levels.invariant.right
          (subst (λ (l : Level). length l.right ≤ 8) c.level-item.is right);
    }
