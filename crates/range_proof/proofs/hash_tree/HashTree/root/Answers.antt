use Rattle.std.proofs.Common.{List, length, sym, ap, subst, ◌∙◌}
use Rattle.xet_roots.specs.Groups.{Node}
use Rattle.xet_roots.specs.Roots.{IsRoot}
use Rattle.range_proof.proofs.TreeOf.{root_if_one, root_if_none}
use Rattle.range_proof.proofs.hash_tree.HashTree.root.Goals as goal

pub returns-in-Some : goal.returns-in-Some
returns-in-Some g c =
    let one = c.in-Some.ensures in
    subst (λ (l : List Node). IsRoot l c.in-Some.hash) c.self.view_is
    (root_if_one c.self.inside.levels.items c.self.inside.top.items _ c.in-Some.hash c.self.invariant.tree (one.0, sym c.deref.ensures.value ∙ one.1))

pub returns-in-None : goal.returns-in-None
returns-in-None g c =
    subst (λ (l : List Node). IsRoot l c.default.result) c.self.view_is
    (root_if_none c.self.inside.levels.items c.self.inside.top.items _ c.default.result c.self.invariant.tree
    (λ one. c.in-None.ensures (ap length c.deref.ensures.value ∙ one)) c.default.ensures)
