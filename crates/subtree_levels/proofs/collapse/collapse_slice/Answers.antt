use Rattle.std.proofs.Common.{◌≡◌, List, [], ◌∷◌, ◌++◌, map, ap, ◌∙◌, append_assoc, arith}
use Rattle.std.proofs.lemmas.List.{length-map}
use Rattle.xet_roots.specs.Groups.{Node}
use Rattle.xet_roots.specs.Roots.{parent_by}
use Rattle.subtree_levels.specs.Levels.{Level}
use Rattle.subtree_levels.proofs.Canonical.Collapsing.{middle_fits, parents_fit, parents_half, stand_start, stand_whole, stand_more}
use Rattle.subtree_levels.proofs.collapse.collapse_slice.Goals as goal

pub parents_of-requires : goal.parents_of-requires
parents_of-requires g c =
    let room = c.requires.room in
    record { fits = middle_fits _ _ _ _ _ _ c.in-Some.ensures.split c.requires.fits; room = omega arith }

pub collapse-requires : goal.collapse-requires
collapse-requires g c =
    let parents = c.in_ok-parents-in-Some.ensures.parents in
    let half = parents_half _ _ _ _ _ _ c.in-Some.ensures.split (parent_by g.P.ParentMaker.hash_of) _ parents in
    let room = c.requires.room in
    let count = c.in_ok-parents-in-Some.ensures.count in
    record { fits = parents_fit _ _ _ _ _ _ c.in-Some.ensures.split g.P.ParentMaker.hash_of _ parents c.requires.fits; room = omega (arith, length-map c.args.nodes.now g.T.AsNode.node_of) }

pub returns-in_ok-pushed-in-None : goal.returns-in_ok-pushed-in-None
returns-in_ok-pushed-in-None g c =
    let make = parent_by g.P.ParentMaker.hash_of in
    let nodes = map g.T.AsNode.node_of c.args.nodes.now in
    let level : Level = record { left = nodes; right = [] } in
    let new : c.new-in-None.result ≡ level = c.new-in-None.ensures
    ∙ ap (λ (l : List Node). record { left = l; right = c.new.result.items }) c.in_ok-left-in-None.ensures
    ∙ ap (λ (l : List Node). record { left = nodes; right = l }) c.new.ensures.items in (
      level ∷ [],
      0,
      stand_whole make c.args.marks.at_start c.args.marks.at_end nodes [] 0 nodes (stand_start make c.args.marks.at_start c.args.marks.at_end nodes) c.in-None.ensures.none,
      c.in_ok-pushed-in-None.ensures ∙ ap (λ (l : Level). c.args.levels.items ++ l ∷ []) new,
      omega arith,
    )

pub returns-in_ok-collapse-in-Some : goal.returns-in_ok-collapse-in-Some
returns-in_ok-collapse-in-Some g c =
    let make = parent_by g.P.ParentMaker.hash_of in
    let node = g.T.AsNode.node_of in
    let nodes = map node c.args.nodes.now in
    let collapsed = c.in_ok-collapse-in-Some.ensures in
    let level : Level = record { left = map node c.in-Some.split.left.now; right = map node c.in-Some.split.right.now } in
    let new : c.new-in-Some.result ≡ level = c.new-in-Some.ensures
    ∙ ap (λ (l : List Node). record { left = l; right = c.in_ok-right-in-Some.right.items }) c.in_ok-left-in-Some.ensures
    ∙ ap (λ (l : List Node). record { left = map node c.in-Some.split.left.now; right = l }) c.in_ok-right-in-Some.ensures in
    let count = c.in_ok-parents-in-Some.ensures.count in
    let made = collapsed.4 in (
      level ∷ collapsed.0,
      _,
      stand_more make c.args.marks.at_start c.args.marks.at_end nodes [] 0 nodes _ _ _ _ (stand_start make c.args.marks.at_start c.args.marks.at_end nodes)
          c.in-Some.ensures.split c.in_ok-parents-in-Some.ensures.parents collapsed.0 collapsed.1 collapsed.2,
      collapsed.3 ∙ ap (λ (l : List Level). l ++ collapsed.0) (c.in_ok-levels-in-Some.ensures ∙ ap (λ (l : Level). c.args.levels.items ++ l ∷ []) new)
          ∙ append_assoc c.args.levels.items (level ∷ []) collapsed.0,
      omega arith,
    )
