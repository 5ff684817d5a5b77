use Rattle.std.proofs.Common.{◌≡◌, ◌<◌, true, map, length, sym, subst, ◌∙◌, rules}
use Rattle.std.proofs.lemmas.Bool.{false≢true}
use Rattle.std.proofs.lemmas.List.{length-map}
use Rattle.xet_roots.specs.Roots.{parent_by}
use Rattle.subtree_levels.specs.Steps.LevelMerging.{Sight, levels_of, OnlyExtends}
use Rattle.subtree_levels.specs.Steps.Building.{MergesLower}
use Rattle.subtree_levels.proofs.Merging.InPlace.{lower_none, lower_next, next-shorter, lower_rest, lower_top}
use Rattle.subtree_levels.proofs.merge_levels.merge_lower.Goals as goal
use Rattle.subtree_levels.proofs.merge_levels.merge_lower.Goals.{then-levels-test+else-is_collapsed, else-levels-test}

pub levels-init : goal.levels-init
levels-init g c =
    let made = g.P.ParentMaker.count c.args.maker.now in
    let make = parent_by g.P.ParentMaker.hash_of in
    record {
      lower = subst (λ sides. MergesLower make c.args.kept c.args.sight (map (λ side. side.items) sides) made c.args.sight) (sym c.new-sides.ensures.items)
          (lower_none make c.args.kept c.args.sight made c.requires.none_made c.requires.can_merge);
      extends = c.only_extends-extends.ensures;
    }

pub merge_level-requires-clause-below_top : goal.merge_level-requires-clause-below_top
merge_level-requires-clause-below_top g c = c.is_collapsed.ensures.0 c.if-is_collapsed.true

pub levels-smaller : goal.levels-smaller
levels-smaller g c =
    next-shorter (parent_by g.P.ParentMaker.hash_of) c.args.kept c.levels.sight c.in_ok-sight.sight _ _ c.in_ok-sight.ensures.merges (c.is_collapsed.ensures.0 c.if-is_collapsed.true)

pub levels-preserved : goal.levels-preserved
levels-preserved g c = record {
  lower = lower_next g.P.ParentMaker.hash_of c.args.kept c.args.sight c.levels.sight c.in_ok-sight.sight _ _ (g.P.ParentMaker.count c.levels.maker) (g.P.ParentMaker.count c.merge_level.new.maker)
      c.levels.invariant.lower (c.is_collapsed.ensures.0 c.if-is_collapsed.true) c.in_ok-sight.ensures.merges c.in_ok-sight.ensures.count;
  extends = c.only_extends-extends-in-levels.ensures;
}

pub returns-clause-merges : goal.returns-clause-merges
returns-clause-merges g c =
    let make = parent_by g.P.ParentMaker.hash_of in
    let made = g.P.ParentMaker.count c.levels.maker in
    let sides = c.levels.sides.items in
    subst (λ (s : Sight). MergesLower make c.args.kept c.args.sight (map (λ side. side.items) sides) made s)
    (lower_rest make c.args.kept c.args.sight _ made c.levels.sight c.levels.invariant.lower (length sides) (length-map sides (λ side. side.items)) c.into_carry.result.items c.into_carry.ensures)
    c.levels.invariant.lower

pub returns-clause-extends : goal.returns-clause-extends
returns-clause-extends g c = λ extends.
    let make = parent_by g.P.ParentMaker.hash_of in
    let made = g.P.ParentMaker.count c.levels.maker in
    let sides = c.levels.sides.items in
    subst (λ (s : Sight). OnlyExtends c.args.kept s)
    (lower_rest make c.args.kept c.args.sight _ made c.levels.sight c.levels.invariant.lower (length sides) (length-map sides (λ side. side.items)) c.into_carry.result.items c.into_carry.ensures)
    (c.levels.invariant.extends extends)

pub returns-clause-top : goal.returns-clause-top
returns-clause-top g c = λ done.
    let sides = c.levels.sides.items in
    let few : ¬ (1 < length (levels_of c.args.kept c.levels.sight)) = elim c.levels-test.branch [
      | then-levels-test+else-is_collapsed w ↦ λ more. false≢true (sym w.if-is_collapsed.false ∙ w.is_collapsed.ensures.1 more)
      | else-levels-test w ↦ let extends : c.levels.extends ≡ true = search rules in absurd (false≢true (sym done ∙ extends))
    ] in
    lower_top (parent_by g.P.ParentMaker.hash_of) c.args.kept c.args.sight _ (g.P.ParentMaker.count c.levels.maker) c.levels.sight c.levels.invariant.lower (length sides) (length-map sides (λ side. side.items)) few
