use Rattle.std.proofs.Common.{List, ◌++◌, map, sym, ap, subst, ◌∙◌, arith}
use Rattle.xet_roots.specs.Roots.{parent}
use Rattle.subtree_levels.specs.Levels.{Level}
use Rattle.subtree_levels.specs.Canonical.{IsCanonicalBy}
use Rattle.subtree_levels.proofs.collapse.collapse_chunks.Goals as goal

pub collapse_slice-requires : goal.collapse_slice-requires
collapse_slice-requires g c = let none = c.new.ensures in record { fits = c.requires; room = omega arith }

pub returns : goal.returns
returns g c =
    let collapsed = c.in_ok-collapse_slice.ensures in
    let levels = collapsed.3 ∙ ap (λ (l : List Level). l ++ collapsed.0) c.in_ok-levels.ensures.items in
    (collapsed.1, subst (λ (l : List Level). IsCanonicalBy parent c.args.at_start c.args.at_end (map g.T.AsNode.node_of c.args.chunks.now) l collapsed.1) (sym levels) collapsed.2)
