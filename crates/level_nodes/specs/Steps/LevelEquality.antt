-- The laws that `==` of levels keeps: it returns true exactly for equal levels.
use Rattle.std.specs.Prelude.{◌≡◌, Bool, ◌&&◌, nat_eq}
use Rattle.std.specs.Bool.{Decides}
use Rattle.std.specs.Cmp.{IsEquivalence, IsPartialEquivalence, partial_equiv_from_equiv, decided, unsigned_Decides}
use Rattle.std.specs.Cmp.Lexicographic.{pointwise, pointwise_decides}
use Rattle.std.proofs.Common.{ap}
use Rattle.std.proofs.lemmas.Bool.{and_parts, and_from}
use Rattle.xet_roots.specs.Groups.{Node}
use Rattle.level_nodes.specs.Level.{Level, same_node, same_level}

-- two tests decide a pair of facts
pub both_decide : (a b : Bool) (P Q R : Type 0) → Decides a P → Decides b Q → (P → Q → R) → (R → P) → (R → Q) → Decides (a && b) R
both_decide a b P Q R p q together first second = (
  λ e. let both = and_parts a b e in together (p.0 both.0) (q.0 both.1),
  λ r. and_from a b (p.1 (first r)) (q.1 (second r)),
)

pub same_node-decides : (a b : Node) → Decides (same_node a b) (a ≡ b)
same_node-decides a b =
    both_decide (pointwise nat_eq a.0 b.0) (nat_eq a.1 b.1) (a.0 ≡ b.0) (a.1 ≡ b.1) (a ≡ b) (pointwise_decides unsigned_Decides a.0 b.0) (unsigned_Decides a.1 b.1)
    (λ p q i. (p i, q i)) (ap (λ (node : Node). node.0)) (ap (λ (node : Node). node.1))

pub same_level-decides : (a b : Level) → Decides (same_level a b) (a ≡ b)
same_level-decides a b =
    both_decide (pointwise same_node a.left b.left) (pointwise same_node a.right b.right) (a.left ≡ b.left) (a.right ≡ b.right) (a ≡ b)
    (pointwise_decides same_node-decides a.left b.left) (pointwise_decides same_node-decides a.right b.right)
    (λ p q i. record { left = p i; right = q i }) (ap (λ (level : Level). level.left)) (ap (λ (level : Level). level.right))

pub same_level-equiv : IsEquivalence same_level
same_level-equiv = decided same_level same_level-decides

pub same_level-per : IsPartialEquivalence same_level
same_level-per = partial_equiv_from_equiv same_level-equiv
