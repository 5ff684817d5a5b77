use Rattle.std.proofs.Common.{◌≡◌, List, [], ◌∷◌, ◌++◌, length, refl, sym, ap, subst, ◌∙◌, arith, rules}
use Rattle.xet_roots.specs.Groups.{Node}
use Rattle.xet_roots.specs.Roots.{parent}
use Rattle.xet_roots.specs.Steps.Scan.{AreParents}
use Rattle.xet_roots.proofs.Roots.Making.{AreParents-few}
use Rattle.range_proof.proofs.TreeOf.{IsGrown, IsGrown-none, IsGrown-more, IsGrown-all}
use Rattle.range_proof.proofs.tree_level.make_levels.Goals as goal

pub levels-init : goal.levels-init
levels-init g c =
    IsGrown-none c.args.chunks.items c.new-levels.result.items c.args.chunks.items c.new-levels.ensures.items refl

pub levels-preserved : goal.levels-preserved
levels-preserved g c =
    let above = c.in_ok-above.above.items in
    let two = c.levels-test.true in
    let made : AreParents parent c.levels.nodes.items above = subst (λ (l : List Node). AreParents parent l above) c.deref.ensures.value c.in_ok-above.ensures.parents in
    let pushed : c.push.new.self.items ≡ c.levels.levels.items ++ c.in_ok-new.field-0 ∷ [] = search rules in
    let level : c.in_ok-new.field-0 ≡ c.levels.nodes.items = c.in_ok-new.ensures in
    subst (λ (l : List (List Node)). IsGrown c.args.chunks.items l above) (sym (pushed ∙ ap (λ (l : List Node). c.levels.levels.items ++ l ∷ []) level))
    (IsGrown-more c.args.chunks.items c.levels.levels.items c.levels.nodes.items above (omega arith) c.levels.invariant made)

pub levels-smaller : goal.levels-smaller
levels-smaller g c =
    let few = AreParents-few parent _ _ c.in_ok-above.ensures.parents in
    let len = ap length c.deref.ensures.value in
    let two = c.levels-test.true in
    omega arith

pub returns : goal.returns
returns g c =
    let few = c.levels-test.false in
    IsGrown-all c.args.chunks.items c.levels.levels.items c.levels.nodes.items (omega arith) c.levels.invariant
