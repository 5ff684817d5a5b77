use Rattle.std.proofs.Common.{◌≡◌, ◌<◌, ◌≤◌, ◌⊎◌, List, ◌++◌, length, refl, sym, ap, subst, ◌∙◌, inl, inr, arith, rules}
use Rattle.xet_roots.specs.Groups.{Node}
use Rattle.subtree_levels.specs.Levels.{Level}
use Rattle.subtree_levels.specs.Steps.LevelMerging.{operand, IsHighAfter, IsLowBefore, IsMergeSplit, Sight, seen, IsSightSplit}
use Rattle.subtree_levels.proofs.OfLevels.Reading.{operand-one, operand-length, operand-more, operand-longer, operand-left, operand-right}
use Rattle.subtree_levels.proofs.Merging.LevelMerge.{both_above, left_above, right_above}
use Rattle.subtree_levels.proofs.in_sight.InSight.split.Goals as goal

back_above : (front back : List Level) → length front < 2 → (1 < length (operand front)) ⊎ (1 < length (operand back)) → 1 < length (operand back)
back_above front back few (inl more) = absurd (let long = operand-more front more in omega arith)
back_above front back few (inr more) = more

pub returns-then-self-lt2 : goal.returns-then-self-lt2
returns-then-self-lt2 g c =
    let front = c.self.inside.front.now in
    let back = c.self.inside.back.now in
    let at_start = c.self.inside.marks.at_start in
    let at_end = c.self.inside.marks.at_end in
    let nodes = c.args.nodes.now in
    let left = c.split_at.result.0.now in
    let middle = c.split_at.result.1.now in
    let right = c.right_at.result.now in
    let few : length front < 2 = search rules in
    let one = operand-one front (omega arith) in
    let above = subst (λ (s : Sight). (1 < length s.front) ⊎ (1 < length s.back)) (sym c.self.view_is) c.requires.above in
    let parts : nodes ≡ left ++ middle = search rules in
    let low : IsLowBefore at_start left middle = search rules in
    let split : IsMergeSplit at_start at_end (operand front) (operand back) nodes left middle right =
    subst (λ (xs : List Level). IsMergeSplit at_start at_end xs (operand back) nodes left middle right) (sym one.1)
    (right_above at_start at_end nodes left middle right one.0 (operand back) (back_above front back few above) parts low (c.right_at.ensures ∙ operand-right back)) in
    subst (λ (s : Sight). IsSightSplit s left middle right) c.self.view_is
    (subst (λ (l : List Node). IsMergeSplit at_start at_end (operand front) (operand back) l left middle right) (c.requires.nodes ∙ ap seen (sym c.self.view_is)) split)

pub returns-then-self-lt2-2 : goal.returns-then-self-lt2-2
returns-then-self-lt2-2 g c =
    let front = c.self.inside.front.now in
    let back = c.self.inside.back.now in
    let at_start = c.self.inside.marks.at_start in
    let at_end = c.self.inside.marks.at_end in
    let nodes = c.args.nodes.now in
    let left = c.left_at.result.now in
    let middle = c.split_at-then-self-lt2-2.result.0.now in
    let right = c.split_at-then-self-lt2-2.result.1.now in
    let more : 2 ≤ length front = search rules in
    let few : length back < 2 = search rules in
    let none : ¬ (1 < length (operand back)) = λ longer. let long = operand-more back longer in omega arith in
    let parts : nodes ≡ middle ++ right = search rules in
    let high : IsHighAfter at_end middle right = search rules in
    let split = left_above at_start at_end nodes left middle right (operand front) (operand back) (operand-longer front (omega arith)) (operand-length back) none
    (c.left_at.ensures ∙ operand-left front) parts high in
    subst (λ (s : Sight). IsSightSplit s left middle right) c.self.view_is
    (subst (λ (l : List Node). IsMergeSplit at_start at_end (operand front) (operand back) l left middle right) (c.requires.nodes ∙ ap seen (sym c.self.view_is)) split)

pub returns-else-self-lt2-2 : goal.returns-else-self-lt2-2
returns-else-self-lt2-2 g c =
    let front = c.self.inside.front.now in
    let back = c.self.inside.back.now in
    let at_start = c.self.inside.marks.at_start in
    let at_end = c.self.inside.marks.at_end in
    let nodes = c.args.nodes.now in
    let left = c.left_at-else-self-lt2-2.result.now in
    let right = c.right_at-else-self-lt2-2.result.now in
    let more_front : 2 ≤ length front = search rules in
    let more_back : 2 ≤ length back = search rules in
    let split = both_above at_start at_end nodes left nodes right (operand front) (operand back) (operand-longer front (omega arith)) (operand-longer back (omega arith))
    (c.left_at-else-self-lt2-2.ensures ∙ operand-left front) refl (c.right_at-else-self-lt2-2.ensures ∙ operand-right back) in
    subst (λ (s : Sight). IsSightSplit s left nodes right) c.self.view_is
    (subst (λ (l : List Node). IsMergeSplit at_start at_end (operand front) (operand back) l left nodes right) (c.requires.nodes ∙ ap seen (sym c.self.view_is)) split)
