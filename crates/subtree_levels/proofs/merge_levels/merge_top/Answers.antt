use Rattle.std.proofs.Common.{◌≡◌, ℕ, ◌+◌, ◌<◌, ◌⊎◌, List, length, drop, sym, ap, subst, ◌∙◌, inl, inr, arith, rules}
use Rattle.std.proofs.lemmas.Bool.{false≢true}
use Rattle.xet_roots.specs.Roots.{parent_by}
use Rattle.subtree_levels.specs.Levels.{Level}
use Rattle.subtree_levels.specs.Steps.LevelMerging.{operand, Sight, sight_up, IsSightMerge}
use Rattle.subtree_levels.specs.Steps.Building.{MergeBelow, CanMerge}
use Rattle.subtree_levels.proofs.OfLevels.Reading.{up-short, up-shorter}
use Rattle.subtree_levels.proofs.Merging.LevelByLevel.{middle_fits, can_merge_above, seen_fits, seen_room, merge_step, merge_all}
use Rattle.subtree_levels.proofs.merge_levels.merge_top.Goals as goal
use Rattle.subtree_levels.proofs.merge_levels.merge_top.Goals.{then-is_collapsed, else-is_collapsed+then-is_collapsed-2}

shorter : (front back : List Level) → 0 < length front → 0 < length back → (1 < length front) ⊎ (1 < length back) →
    length (operand (drop 1 front)) + length (operand (drop 1 back)) < length front + length back
shorter front back some_front some_back (inl more) =
    let less = up-shorter front more in
    let short = up-short back some_back in
    omega arith
shorter front back some_front some_back (inr more) =
    let less = up-shorter back more in
    let short = up-short front some_front in
    omega arith

pub collapse_middle-requires-clause-fits : goal.collapse_middle-requires-clause-fits
collapse_middle-requires-clause-fits g c = middle_fits g.P.ParentMaker.hash_of _ _ c.levels.invariant.can_merge c.split.ensures

pub levels-smaller : goal.levels-smaller
levels-smaller g c =
    let sight = c.levels.sight in
    let can = c.levels.invariant.can_merge in
    let above : (1 < length sight.front) ⊎ (1 < length sight.back) = elim c.if-is_collapsed.branch [
      | then-is_collapsed w ↦ inl (search rules)
      | else-is_collapsed+then-is_collapsed-2 w ↦ inr (search rules)
    ] in
    let less = shorter sight.front sight.back can.some_front can.some_back above in
    let front_is = ap (λ (s : Sight). length s.front) c.above-sight.ensures in
    let back_is = ap (λ (s : Sight). length s.back) c.above-sight.ensures in
    omega arith

pub levels-preserved : goal.levels-preserved
levels-preserved g c =
    let count = g.P.ParentMaker.count in
    let make = parent_by g.P.ParentMaker.hash_of in
    let whole = c.args.sight in
    let sight = c.levels.sight in
    let levels : List Level = c.levels.levels.items in
    let level : Level = record { left = c.split.result.left.now; right = c.split.result.right.now } in
    let done = c.levels.invariant.done in
    let can = c.levels.invariant.can_merge in
    let parents = c.in_ok-more.parents.items in
    let made = c.in_ok-more.ensures.parents in
    let above : c.above-sight.result ≡ sight_up 1 sight parents = c.above-sight.ensures in
    let made_is : count c.levels.maker + length parents ≡ count c.collapse_middle.new.maker = sym c.in_ok-more.ensures.count in
    let before = c.levels.invariant.count in
    let next = merge_step make whole levels done sight c.levels.invariant.merges can.some_front can.some_back parents c.split.ensures made in
    record {
      done = done + length parents;
      merges = subst (λ (s : Sight). MergeBelow make whole c.in_ok-more.more.items (done + length parents) s) (sym above)
          (subst (λ (l : List Level). MergeBelow make whole l (done + length parents) (sight_up 1 sight parents)) (sym c.in_ok-more.ensures.levels) next);
      count = omega arith;
      can_merge = subst (λ (s : Sight). CanMerge (count c.collapse_middle.new.maker) s) (sym above)
          (subst (λ (n : ℕ). CanMerge n (sight_up 1 sight parents)) made_is (can_merge_above g.P.ParentMaker.hash_of (count c.levels.maker) sight can c.split.ensures parents made));
    }

pub collapse-requires-clause-fits : goal.collapse-requires-clause-fits
collapse-requires-clause-fits g c = seen_fits _ c.levels.sight c.levels.invariant.can_merge

pub collapse-requires-clause-room : goal.collapse-requires-clause-room
collapse-requires-clause-room g c = seen_room _ c.levels.sight c.levels.invariant.can_merge

pub returns : goal.returns
returns g c =
    let make = parent_by g.P.ParentMaker.hash_of in
    let sight = c.levels.sight in
    let can = c.levels.invariant.can_merge in
    let done = c.levels.invariant.done in
    let one_front : ¬ (1 < length sight.front) = λ more. false≢true (sym c.if-is_collapsed.false ∙ c.is_collapsed.ensures.1 more) in
    let one_back : ¬ (1 < length sight.back) = λ more. false≢true (sym c.if-is_collapsed-2.false ∙ c.is_collapsed-else-is_collapsed.ensures.1 more) in
    let top = c.in_ok-collapse.ensures in
    let before = c.levels.invariant.count in
    let made = top.4 in (
      done + top.1,
      subst (λ (l : List Level). IsSightMerge make c.args.sight l (done + top.1)) (sym top.3)
          (merge_all make c.args.sight c.levels.levels.items done sight c.levels.invariant.merges can.some_front can.some_back one_front one_back top.0 top.1 top.2),
      omega arith,
    )
