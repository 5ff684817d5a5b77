use Rattle.std.proofs.Common.{◌<◌, ◌^◌, List, [], length, sym, ap, subst, arith, rules}
use Rattle.subtree_levels.specs.Levels.{Level}
use Rattle.subtree_levels.specs.Subtree.{Subtree}
use Rattle.subtree_levels.specs.Steps.LevelMerging.{sight_of, HaveSidesOf}
use Rattle.subtree_levels.specs.Steps.Building.{CanMerge}
use Rattle.subtree_levels.proofs.Merging.InPlace.{kept_sides, kept_can_merge, both_stored, both_bound}
use Rattle.xet_merkle.proofs.Merging.Levels.{both_merged_by}
use Rattle.xet_merkle.proofs.merkle_hash_subtree.subtree.MerkleHashSubtree.merge_with.Goals as goal

pub merge_levels-requires-clause-sides : goal.merge_levels-requires-clause-sides
merge_levels-requires-clause-sides g c =
    let marks = c.in_ok-marks.marks in
    subst (λ (l : List Level). HaveSidesOf c.args.kept marks.at_start marks.at_end l) (sym (ap (λ (s : Subtree). s.levels) c.self.view_is))
    (kept_sides c.args.kept c.args.self.now c.args.other.now marks.at_start marks.at_end _ c.in_ok-marks.ensures.mergeable)

pub merge_levels-requires-clause-can_merge : goal.merge_levels-requires-clause-can_merge
merge_levels-requires-clause-can_merge g c =
    let marks = c.in_ok-marks.marks in
    let this = c.args.self.now in
    let other = c.args.other.now in
    let levels_is = ap (λ (s : Subtree). s.levels) c.self.view_is in
    let few_here : length c.self.inside.levels.items < 2 ^ 64 = search rules in
    let few_there : length c.levels.result.now < 2 ^ 64 = search rules in
    let few_this : length this.levels < 2 ^ 64 = let len = ap length levels_is in omega arith in
    let few_other : length other.levels < 2 ^ 64 = let len = ap length c.levels.ensures.levels in omega arith in
    subst (λ (l : List Level). CanMerge 0 (sight_of c.args.kept marks.at_start marks.at_end l [] c.levels.result.now)) (sym levels_is)
    (subst (λ (l : List Level). CanMerge 0 (sight_of c.args.kept marks.at_start marks.at_end this.levels [] l)) (sym c.levels.ensures.levels)
    (kept_can_merge c.args.kept this other marks.at_start marks.at_end _ c.in_ok-marks.ensures.mergeable few_this few_other))

pub invariant_of-self-2 : goal.invariant_of-self-2
invariant_of-self-2 g c =
    both_stored g.P.ParentMaker.hash_of c.args.kept c.args.self.now c.args.other.now _ _ _ c.in_ok-marks.ensures.mergeable _ _ _ _
    (ap (λ (s : Subtree). s.levels) c.self.view_is) c.levels.ensures.levels c.in_ok-merge_levels.ensures.merged

pub returns-clause-merged : goal.returns-clause-merged
returns-clause-merged g c =
    both_merged_by g.P.ParentMaker.hash_of c.args.kept c.args.self.now c.args.other.now _ _ _ c.in_ok-marks.ensures.mergeable _ _ _ _
    (ap (λ (s : Subtree). s.levels) c.self.view_is) c.levels.ensures.levels c.in_ok-merge_levels.ensures.merged

pub returns-clause-bound : goal.returns-clause-bound
returns-clause-bound g c =
    both_bound g.P.ParentMaker.hash_of c.args.kept c.args.self.now c.args.other.now _ _ _ c.in_ok-marks.ensures.mergeable _ _ _ _
    (ap (λ (s : Subtree). s.levels) c.self.view_is) c.levels.ensures.levels c.in_ok-merge_levels.ensures.merged
