use Rattle.std.proofs.Common.{◌≡◌, ℕ, ◌<◌, ◌^◌, List, [], ◌∷◌, ◌++◌, length, sym, ap, subst, arith}
use Rattle.std.specs.Prelude.{MatchOption}
use Rattle.xet_roots.specs.Groups.{Node}
use Rattle.xet_roots.specs.Roots.{total_size, parent}
use Rattle.xet_roots.specs.Steps.Scan.{AreParents}
use Rattle.level_nodes.specs.Level.{Level}
use Rattle.range_proof.proofs.Opening.{IsRisen-none, IsRisen-more, HasTop-all, level_fits}
use Rattle.range_proof.proofs.tops.top.Goals as goal

pub levels-init : goal.levels-init
levels-init g c =
    IsRisen-none c.args.chunks.now c.args.levels.now c.in_ok-nodes.nodes.items
    (c.in_ok-nodes.ensures.items_if_clones_equal (λ x y e i. (e.0 i, e.1 i)))

pub parents_between-requires-clause-few : goal.parents_between-requires-clause-few
parents_between-requires-clause-few g c =
    let left = c.requires.few_left c.levels.level-index c.level-item.result c.levels-test.true in
    let right = c.requires.few_right c.levels.level-index c.level-item.result c.levels-test.true in
    let here_left = ap (λ (sides : Level). length sides.left) c.level-item.is in
    let here_right = ap (λ (sides : Level). length sides.right) c.level-item.is in
    omega arith

pub parents_between-requires-clause-fits : goal.parents_between-requires-clause-fits
parents_between-requires-clause-fits g c =
    let level = c.level-item.result in
    let size = level_fits c.args.chunks.now c.args.levels.now c.levels.level-index c.levels.nodes.items level c.levels-test.true c.level-item.is c.levels.invariant in
    let fits = c.requires.fits in
    subst (λ (l : List Node). total_size ((level.left ++ l) ++ level.right) < 2 ^ 64) (sym c.deref.ensures.value) (omega arith)

pub levels-preserved : goal.levels-preserved
levels-preserved g c =
    let level = c.level-item.result in
    IsRisen-more c.args.chunks.now c.args.levels.now c.levels.level-index c.levels.nodes.items level c.in_ok-nodes-2.nodes.items c.levels-test.true c.level-item.is
    c.levels.invariant
    (subst (λ (l : List Node). AreParents parent ((level.left ++ l) ++ level.right) c.in_ok-nodes-2.nodes.items) c.deref.ensures.value c.in_ok-nodes-2.ensures)

pub returns : goal.returns
returns g c =
    HasTop-all c.args.chunks.now c.args.levels.now c.levels.level-index c.levels.nodes.items c.only_hash.result c.levels-test.false c.levels.invariant
    (subst (λ (l : List Node). MatchOption c.only_hash.result (¬ (length l ≡ 1)) (λ hash. (size : ℕ) × (l ≡ (hash, size) ∷ []))) c.deref-2.ensures.value
    c.only_hash.ensures)
