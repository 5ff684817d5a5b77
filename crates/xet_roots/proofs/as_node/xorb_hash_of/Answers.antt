use Rattle.std.proofs.Common.{[], map, sym, subst, ap, ◌∙◌, arith, rules}
use Rattle.std.proofs.lemmas.List.{get_or-map, length-map}
use Rattle.xet_roots.specs.Groups.{Node}
use Rattle.xet_roots.specs.Roots.{IsRoot, parent_hash}
use Rattle.xet_roots.proofs.Roots.Making.{total_size-are_parents, IsRoot-from_parents, IsRoot-none, IsRoot-one}
use Rattle.xet_roots.proofs.as_node.xorb_hash_of.Goals as goal

pub root-requires-clause-fits : goal.root-requires-clause-fits
root-requires-clause-fits g c = rw (total_size-are_parents parent_hash _ _ c.in_ok-parents_of-in_default.ensures.parents) (search rules)

pub returns-in-empty-clause-root : goal.returns-in-empty-clause-root
returns-in-empty-clause-root g c =
    IsRoot-none _ _ (omega (arith, length-map c.args.chunks.now g.T.AsNode.node_of, c.in-empty.len_below)) c.default.ensures

pub returns-in-len1-clause-root : goal.returns-in-len1-clause-root
returns-in-len1-clause-root g c =
    let node = g.T.AsNode.node_of in
    let chunks = c.args.chunks.now in
    let same = get_or-map node chunks 0 c.chunk-item.result ([], 0) (omega arith) ∙ ap node (sym c.chunk-item.is) ∙ sym c.node.ensures in
    subst (λ (n : Node). IsRoot (map node chunks) n.0) same (IsRoot-one (map node chunks) ([], 0) (omega (arith, length-map chunks node)))

pub returns-in_ok-parents_of-in_default-clause-root : goal.returns-in_ok-parents_of-in_default-clause-root
returns-in_ok-parents_of-in_default-clause-root g c =
    IsRoot-from_parents _ _ _ c.in_ok-parents_of-in_default.ensures.parents (omega (arith, length-map c.args.chunks.now g.T.AsNode.node_of)) c.root.ensures
