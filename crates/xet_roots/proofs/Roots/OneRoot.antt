-- The law of roots: each list of nodes has exactly one root, and its groups are fewer than its nodes.
use Rattle.std.proofs.Common.{◌≡◌, ℕ, zero, suc, ◌+◌, ◌*◌, ◌<◌, ◌≤◌, List, [], ◌∷◌, length, map, refl, ap, subst, arith, length-append}
use Rattle.std.proofs.lemmas.List.{length-map}
use Rattle.xet_hash.specs.Hash.{default_hash}
use Rattle.xet_roots.specs.Groups.{Node, AreGroups, Groups}
use Rattle.xet_roots.specs.Roots.{IsRootBy}
use Rattle.xet_roots.specs.Roots.IsRootBy.{no_node, one_node, of_parents}
use Rattle.xet_roots.proofs.Grouping.OneCutting.{joined_nodes, Groups-unique, Groups-exist}

few_groups : (groups : List (List Node)) → AreGroups groups → 3 * length groups ≤ length (joined_nodes groups) + 2
few_groups [] h = omega arith
few_groups (group ∷ []) h = let some = h.not_empty in omega (arith, length-append group [])
few_groups (group ∷ next ∷ others) h =
    let three = h.1.at_least_three in
    let rest = few_groups (next ∷ others) h.2 in
    omega (arith, length-append group (joined_nodes (next ∷ others)))

-- three times as many nodes as groups, but for two
pub Groups-few : (nodes : List Node) (groups : List (List Node)) → Groups nodes groups → 3 * length groups ≤ length nodes + 2
Groups-few nodes groups h = let len = ap length h.joined in omega (arith, few_groups groups h.are_groups)

-- a list with a node has a group
pub Groups-some : (nodes : List Node) (groups : List (List Node)) → Groups nodes groups → 0 < length nodes → 0 < length groups
Groups-some nodes [] h some = absurd (let len = ap length h.joined in omega arith)
Groups-some nodes (group ∷ groups) h some = omega arith

module _ (make : List Node → Node) where
  -- there is at most one root
  pub IsRootBy-unique : {nodes : List Node} {hash other : List ℕ} → IsRootBy make nodes hash → IsRootBy make nodes other → hash ≡ other
  IsRootBy-unique no_node no_node = refl
  IsRootBy-unique no_node (of_parents two cutting root) = absurd (omega arith)
  IsRootBy-unique one_node one_node = refl
  IsRootBy-unique one_node (of_parents two cutting root) = absurd (omega arith)
  IsRootBy-unique (of_parents two cutting root) no_node = absurd (omega arith)
  IsRootBy-unique (of_parents two cutting root) one_node = absurd (omega arith)
  IsRootBy-unique {other = other} (of_parents two cutting root) (of_parents two' cutting' root') =
      IsRootBy-unique root (subst (λ (groups : List (List Node)). IsRootBy make (map make groups) other) (Groups-unique _ _ _ cutting' cutting) root')

  root_within : (bound : ℕ) (nodes : List Node) → length nodes ≤ bound → (hash : List ℕ) × IsRootBy make nodes hash
  root_within bound [] h = (default_hash, no_node)
  root_within bound (node ∷ []) h = (node.0, one_node)
  root_within zero (node ∷ next ∷ nodes) h = absurd (omega arith)
  root_within (suc bound) (node ∷ next ∷ nodes) h =
      let cutting = Groups-exist (node ∷ next ∷ nodes) in
      let few = Groups-few (node ∷ next ∷ nodes) cutting.0 cutting.1 in
      let root = root_within bound (map make cutting.0) (omega (arith, length-map cutting.0 make)) in
      (root.0, of_parents (omega arith) cutting.1 root.1)

  -- there is one
  pub root_exists : (nodes : List Node) → (hash : List ℕ) × IsRootBy make nodes hash
  root_exists nodes = root_within (length nodes) nodes (omega arith)
