-- The laws that `==` of subtrees keeps: it returns true exactly for equal subtrees.
use Rattle.std.specs.Prelude.{◌≡◌, ◌&&◌}
use mathlib.Core.Bool.{beq}
use Rattle.std.specs.Bool.{Decides}
use Rattle.std.specs.Cmp.{IsEquivalence, IsPartialEquivalence, partial_equiv_from_equiv, decided, booleans_Decides}
use Rattle.std.specs.Cmp.Lexicographic.{pointwise, pointwise_decides}
use Rattle.std.proofs.Common.{ap}
use Rattle.level_nodes.specs.Level.{same_level}
use Rattle.level_nodes.specs.Steps.LevelEquality.{both_decide, same_level-decides}
use Rattle.subtree_levels.specs.Subtree.{Subtree, same_subtree}

pub same_subtree-decides : (a b : Subtree) → Decides (same_subtree a b) (a ≡ b)
same_subtree-decides a b =
    let rest = both_decide (beq a.at_end b.at_end) (pointwise same_level a.levels b.levels) (a.at_end ≡ b.at_end) (a.levels ≡ b.levels)
    ((a.at_end ≡ b.at_end) × (a.levels ≡ b.levels)) (booleans_Decides a.at_end b.at_end) (pointwise_decides same_level-decides a.levels b.levels)
    (λ p q. (p, q)) (λ r. r.0) (λ r. r.1) in
    both_decide (beq a.at_start b.at_start) (beq a.at_end b.at_end && pointwise same_level a.levels b.levels) (a.at_start ≡ b.at_start)
    ((a.at_end ≡ b.at_end) × (a.levels ≡ b.levels)) (a ≡ b) (booleans_Decides a.at_start b.at_start) rest
    (λ p q i. record { at_start = p i; at_end = q.0 i; levels = q.1 i }) (ap (λ (s : Subtree). s.at_start))
    (λ e. (ap (λ (s : Subtree). s.at_end) e, ap (λ (s : Subtree). s.levels) e))

pub same_subtree-equiv : IsEquivalence same_subtree
same_subtree-equiv = decided same_subtree same_subtree-decides

pub same_subtree-per : IsPartialEquivalence same_subtree
same_subtree-per = partial_equiv_from_equiv same_subtree-equiv
