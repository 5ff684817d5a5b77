use Rattle.std.proofs.Common.{◌≡◌, ◌+◌, ◌<◌, ◌++◌, length, set, take, drop, sym, subst, arith, rules}
use Rattle.subtree_levels.specs.Levels.{Level}
use Rattle.subtree_levels.specs.Steps.LevelMerging.{with_inner}
use Rattle.subtree_levels.proofs.OfLevels.InPlace.{with_inner-top, with_inner-below}
use Rattle.subtree_levels.proofs.in_place.extend_inner.Goals as goal

pub returns-in_ok-extend_left-clause-extended : goal.returns-in_ok-extend_left-clause-extended
returns-in_ok-extend_left-clause-extended g c =
    let levels = c.args.levels.now.items in
    let last : c.args.at + 1 ≡ length levels = search rules in
    rw c.in_ok-extend_left.ensures.extended
    (subst (λ (l : Level). set levels c.args.at (record { left = l.left ++ c.args.more.now; right = l.right }) ≡ take c.args.at levels ++ with_inner (drop c.args.at levels) c.args.more.now) (sym c.index_mut.ensures.value)
    (with_inner-top levels c.args.at c.args.more.now _ last))

pub returns-in_ok-extend_right-clause-extended : goal.returns-in_ok-extend_right-clause-extended
returns-in_ok-extend_right-clause-extended g c =
    let levels = c.args.levels.now.items in
    let below : c.args.at + 1 < length levels = let within = c.requires in let other : ¬ (c.args.at + 1 ≡ length levels) = search rules in omega arith in
    rw c.in_ok-extend_right.ensures.extended
    (subst (λ (l : Level). set levels c.args.at (record { left = l.left; right = l.right ++ c.args.more.now }) ≡ take c.args.at levels ++ with_inner (drop c.args.at levels) c.args.more.now) (sym c.index_mut-else-at-len.ensures.value)
    (with_inner-below levels c.args.at c.args.more.now _ below))
