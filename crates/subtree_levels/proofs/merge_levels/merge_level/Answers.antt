use Rattle.std.proofs.Common.{◌≡◌, List, [], ◌∷◌, ◌++◌, map, sym, ap, ◌∙◌, rules}
use Rattle.std.proofs.lemmas.List.{map-append}
use Rattle.xet_roots.specs.Groups.{Node}
use Rattle.subtree_levels.specs.Steps.LevelMerging.{Sight, inner_side, sight_up}
use Rattle.subtree_levels.proofs.Merging.LevelByLevel.{middle_fits}
use Rattle.subtree_levels.proofs.merge_levels.merge_level.Goals as goal

pub parents-requires-clause-fits : goal.parents-requires-clause-fits
parents-requires-clause-fits g c = middle_fits g.P.ParentMaker.hash_of _ _ c.requires.can_merge c.split-split.ensures

pub returns-clause-merges : goal.returns-clause-merges
returns-clause-merges g c =
    let last = c.in_ok-to_vec.field-0 in
    let last_is : last.items ≡ inner_side c.args.kept c.split-split.result.left.now c.split-split.result.right.now =
    c.in_ok-to_vec.ensures.items_if_clones_equal (λ x y same. search rules) ∙ c.inner.ensures in
    record {
      left = c.split-split.result.left.now;
      middle = c.split-split.result.middle.now;
      right = c.split-split.result.right.now;
      split = c.split-split.ensures;
      parents = rw c.above.ensures c.in_ok-parents.ensures.parents;
      above = c.above.ensures ∙ ap (λ (s : Sight). sight_up 1 c.args.sight s.carry) (sym c.above.ensures);
      pushed = ap (λ vecs. map (λ side. side.items) vecs) c.in_ok-push.ensures.items ∙ map-append (λ side. side.items) c.args.sides.now.items (last ∷ [])
          ∙ ap (λ (l : List Node). map (λ side. side.items) c.args.sides.now.items ++ l ∷ []) last_is;
    }
