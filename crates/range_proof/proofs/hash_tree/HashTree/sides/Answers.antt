use Rattle.std.proofs.Common.{◌≡◌, ◌+◌, List, [], ◌∷◌, ◌++◌, sym, subst, rules}
use Rattle.xet_roots.specs.Groups.{Node}
use Rattle.level_nodes.specs.Level.{Level}
use Rattle.range_proof.specs.Steps.Trees.{IsTree}
use Rattle.range_proof.proofs.TreeOf.{IsClimbed, IsClimbed-none, IsClimbed-more, IsClimbed-all, range_in_level}
use Rattle.range_proof.proofs.hash_tree.HashTree.sides.Goals as goal

pub levels-init : goal.levels-init
levels-init g c =
    let top = c.self.inside.top.items in
    let tree : IsTree c.as_slice-levels.result.now top c.args.self.now =
    subst (λ (l : List (List Node)). IsTree l top c.args.self.now) (sym c.as_slice-levels.ensures.value)
    (subst (IsTree c.self.inside.levels.items top) c.self.view_is c.self.invariant.tree) in
    IsClimbed-none c.args.self.now c.args.first c.args.end c.as_slice-levels.result.now top c.in_ok-all.all.items tree c.requires.some c.requires.within c.in_ok-all.ensures.items

pub beside-requires-clause-some : goal.beside-requires-clause-some
beside-requires-clause-some g c = c.levels.invariant.order

pub beside-requires-clause-within : goal.beside-requires-clause-within
beside-requires-clause-within g c =
    range_in_level c.args.self.now c.args.first c.args.end c.as_slice-levels.result.now c.levels.level-index c.levels.from c.levels.to c.levels.all.items
    c.level-item.result c.levels-test.true c.level-item.is c.levels.invariant

pub levels-preserved : goal.levels-preserved
levels-preserved g c =
    let found = c.in_ok-found.found in
    let pushed : c.push.new.self.items ≡ c.levels.all.items ++ found.sides ∷ [] = search rules in
    subst (λ (l : List Level). IsClimbed c.args.self.now c.args.first c.args.end c.as_slice-levels.result.now (c.levels.level-index + 1) found.first found.end l) (sym pushed)
    (IsClimbed-more c.args.self.now c.args.first c.args.end c.as_slice-levels.result.now c.levels.level-index c.levels.from c.levels.to c.levels.all.items
    c.level-item.result found.sides found.first found.end c.levels-test.true c.level-item.is c.levels.invariant c.in_ok-found.ensures)

pub returns : goal.returns
returns g c =
    IsClimbed-all c.args.self.now c.args.first c.args.end c.as_slice-levels.result.now c.levels.level-index c.levels.from c.levels.to c.levels.all.items
    c.levels-test.false c.levels.invariant
