-- The hash at the top of a canonical subtree with both ends marked.
use Rattle.std.proofs.Common.{◌≡◌, ◌<◌, Bool, true, List, [], ◌∷◌, length, get_or, refl, subst, arith}
use Rattle.xet_hash.specs.Hash.{default_hash}
use Rattle.xet_roots.specs.Groups.{Node}
use Rattle.xet_roots.specs.Roots.{parent, IsRoot}
use Rattle.subtree_levels.specs.Levels.{hash_of_first, top_hash}
use Rattle.subtree_levels.specs.Canonical.{IsCanonicalBy}
use Rattle.subtree_levels.specs.Subtree.{Subtree, IsCanonical}
use Rattle.subtree_levels.proofs.Canonical.OneSubtree.{closed_root}

pub hash_of_none : (nodes : List Node) → length nodes < 1 → hash_of_first nodes ≡ default_hash
hash_of_none [] none = refl
hash_of_none (node ∷ nodes) none = absurd (omega arith)

pub hash_of_some : (nodes : List Node) (d : Node) → 0 < length nodes → (get_or nodes 0 d).0 ≡ hash_of_first nodes
hash_of_some [] d some = absurd (omega arith)
hash_of_some (node ∷ nodes) d some = refl

pub top_is_root : (subtree : Subtree) (chunks : List Node) → subtree.at_start ≡ true → subtree.at_end ≡ true → IsCanonical subtree chunks →
    IsRoot chunks (top_hash subtree.levels)
top_is_root subtree chunks start end h =
    let from_start : IsCanonicalBy parent true subtree.at_end chunks subtree.levels h.0 =
    subst (λ (b : Bool). IsCanonicalBy parent b subtree.at_end chunks subtree.levels h.0) start h.1 in
    let closed : IsCanonicalBy parent true true chunks subtree.levels h.0 =
    subst (λ (b : Bool). IsCanonicalBy parent true b chunks subtree.levels h.0) end from_start in
    (closed_root parent closed).1
