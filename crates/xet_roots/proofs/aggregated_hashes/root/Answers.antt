use Rattle.std.proofs.Common.{◌≡◌, length, sym, subst, arith}
use Rattle.xet_roots.specs.Groups.{Node}
use Rattle.xet_roots.specs.Roots.{IsRoot, parent, parent_hash}
use Rattle.xet_roots.proofs.Roots.Making.{total_size-are_parents, AreParents-some, AreParents-few, IsRoot-from_parents, IsRoot-one}
use Rattle.xet_roots.proofs.aggregated_hashes.root.Goals as goal

pub levels-smaller : goal.levels-smaller
levels-smaller g c = let few = AreParents-few parent c.levels.nodes.items c.shrink.new.nodes.items c.shrink.ensures in omega arith

pub levels-preserved : goal.levels-preserved
levels-preserved g c =
    let nodes = c.levels.nodes.items in
    let parents = c.shrink.new.nodes.items in record {
      some = AreParents-some parent nodes parents c.shrink.ensures c.levels.invariant.some;
      fits = rw (total_size-are_parents parent_hash nodes parents c.shrink.ensures) c.levels.invariant.fits;
      same_root = λ hash root. c.levels.invariant.same_root hash (IsRoot-from_parents nodes parents hash c.shrink.ensures (omega arith) root);
    }

pub returns : goal.returns
returns g c =
    let some = c.levels.invariant.some in
    let few = c.levels-test.false in
    let one : length c.levels.nodes.items ≡ 1 = omega arith in
    c.levels.invariant.same_root c.index.result.now.0
    (subst (λ (node : Node). IsRoot c.levels.nodes.items node.0) (sym c.index.ensures) (IsRoot-one c.levels.nodes.items c.index.result.now one))
