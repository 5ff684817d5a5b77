use Rattle.std.proofs.Common.{◌≡◌, ℕ, ◌<◌, List, [], ◌∷◌, ◌++◌, length, map, set, get_or, sym, ap, ◌∙◌, arith, rules, length-append}
use Rattle.std.proofs.lemmas.List.{map-append, length-map, length-set}
use Rattle.xet_roots.specs.Groups.{Node}
use Rattle.subtree_levels.specs.Levels.{Level}
use Rattle.subtree_levels.specs.Steps.LevelMerging.{with_side}
use Rattle.subtree_levels.proofs.OfLevels.InPlace.{put, put-last}
use Rattle.subtree_levels.proofs.in_place.replace_sides.Goals as goal

pub sides-preserved : goal.sides-preserved
sides-preserved g c =
    let kept = c.args.kept in
    let levels = c.sides.levels.items in
    let others = c.pop.new.self.items in
    let last = c.in-Some.side in
    let old = c.index_mut.result.now in
    let lists : List (List Node) = map (λ side. side.items) others in
    let all = c.in-Some.ensures.items in
    let len = ap length all in
    let count : c.len.result ≡ length others = search rules in
    let within : length others < length levels = let bound = c.sides.invariant.within in omega (arith, length-append others (last ∷ [])) in
    let at : length lists ≡ c.len.result = length-map others (λ side. side.items) ∙ sym count in
    let split : map (λ side. side.items) c.sides.sides.items ≡ lists ++ last.items ∷ [] = ap (λ vecs. map (λ side. side.items) vecs) all ∙ map-append (λ side. side.items) others (last ∷ []) in
    let one = put-last kept lists last.items levels old (omega arith) in
    let put_is : put kept lists (set levels c.len.result c.replace_side.new.level) ≡ put kept (map (λ side. side.items) c.sides.sides.items) levels =
    rw (split, one) (ap (λ (l : Level). put kept lists (set levels c.len.result l)) (c.replace_side.ensures ∙ ap (λ (l : Level). with_side kept l last.items) c.index_mut.ensures.value)
    ∙ ap (λ (n : ℕ). put kept lists (set levels n (with_side kept (get_or levels n old) last.items))) (sym at)) in
    record { within = omega (arith, length-set levels c.len.result c.replace_side.new.level); put_is = put_is ∙ c.sides.invariant.put_is }
