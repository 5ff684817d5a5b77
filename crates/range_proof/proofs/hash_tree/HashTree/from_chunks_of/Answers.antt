use Rattle.std.proofs.Common.{List, subst, ◌∙◌, ◌<◌, ◌^◌, rules}
use Rattle.xet_roots.specs.Groups.{Node}
use Rattle.xet_roots.specs.Roots.{total_size}
use Rattle.range_proof.specs.Steps.Places.{ArePlaces}
use Rattle.range_proof.proofs.TreeOf.{IsKept-from, lowest_is}
use Rattle.range_proof.proofs.hash_tree.HashTree.from_chunks_of.Goals as goal

pub invariant_of-result : goal.invariant_of-result
invariant_of-result g c =
    let nodes = c.in_ok-nodes.nodes.items in
    let places = c.in_ok-places.places.items in
    let are : ArePlaces 0 nodes places = subst (λ (l : List Node). ArePlaces 0 l places) c.deref.ensures.value c.in_ok-places.ensures in
    let fits : total_size nodes < 2 ^ 64 = search rules in
    IsKept-from c.in_ok-levels.levels.items c.in_ok-levels.top.items nodes places c.in_ok-levels.ensures are fits

pub returns-clause-chunks : goal.returns-clause-chunks
returns-clause-chunks g c = lowest_is c.in_ok-levels.levels.items c.in_ok-levels.top.items c.in_ok-nodes.nodes.items c.in_ok-levels.ensures ∙ c.in_ok-nodes.ensures
