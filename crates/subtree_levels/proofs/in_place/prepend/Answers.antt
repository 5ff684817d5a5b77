use Rattle.std.proofs.Common.{◌≡◌, ◌++◌, List, set, take, drop, sym, subst, rules}
use Rattle.xet_roots.specs.Groups.{Node}
use Rattle.subtree_levels.specs.Levels.{Level}
use Rattle.subtree_levels.specs.Steps.LevelMerging.{with_left}
use Rattle.subtree_levels.proofs.OfLevels.InPlace.{with_left-at}
use Rattle.subtree_levels.proofs.in_place.prepend.Goals as goal

pub returns-clause-extended : goal.returns-clause-extended
returns-clause-extended g c =
    let levels = c.args.levels.now.items in
    let more = c.args.first.now ++ c.args.second.now in
    let level = c.index_mut.result.now in
    let more_is : c.deref.result.now ≡ more = search rules in
    rw c.in_ok-prepend_left.ensures.prepended
    (subst (λ (l : List Node). set levels c.args.at (record { left = l ++ level.left; right = level.right }) ≡ take c.args.at levels ++ with_left (drop c.args.at levels) more) (sym more_is)
    (subst (λ (l : Level). set levels c.args.at (record { left = more ++ l.left; right = l.right }) ≡ take c.args.at levels ++ with_left (drop c.args.at levels) more) (sym c.index_mut.ensures.value)
    (with_left-at levels c.args.at more _ c.requires)))
