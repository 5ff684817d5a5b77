-- The law of canonical subtrees: each list has exactly one under given marks, and the top of one with both ends
-- marked is the root of its list.
use Rattle.std.proofs.Common.{◌≡◌, ℕ, zero, suc, ◌+◌, ◌<◌, ◌≤◌, Bool, true, List, [], ◌∷◌, ◌++◌, length, map, refl, sym, subst, inl, inr, arith, length-append}
use Rattle.std.proofs.lemmas.Bool.{cases_lt}
use Rattle.std.proofs.lemmas.List.{length-map}
use Rattle.xet_roots.specs.Groups.{Node, Groups}
use Rattle.xet_roots.specs.Roots.{IsRootBy}
use Rattle.xet_roots.specs.Roots.IsRootBy.{no_node, one_node, of_parents}
use Rattle.subtree_levels.specs.Levels.{Level, top_nodes, hash_of_first, top_hash}
use Rattle.subtree_levels.specs.Canonical.{IsSplit, IsCanonicalBy}
use Rattle.subtree_levels.specs.Canonical.IsCanonicalBy.{whole, collapsed}
use Rattle.xet_roots.proofs.Grouping.OneCutting.{Groups-unique, Groups-exist}
use Rattle.xet_roots.proofs.Roots.OneRoot.{Groups-few}
use Rattle.subtree_levels.proofs.Canonical.Splits.{split_or_none, same_split, middle_within, closed_split}

-- the parents of what is collapsed are fewer than the list's nodes
pub groups_fewer : (at_start at_end : Bool) (nodes left middle right : List Node) (groups : List (List Node)) → IsSplit at_start at_end nodes left middle right →
    Groups middle groups → length groups < length nodes
groups_fewer at_start at_end nodes left middle right groups split cutting =
    let few = Groups-few middle groups cutting in
    let within = middle_within at_start at_end nodes left middle right split in
    let several = split.several in
    omega arith

pub top_nodes-more : (level : Level) (levels : List Level) → 0 < length levels → top_nodes (level ∷ levels) ≡ top_nodes levels
top_nodes-more level [] some = absurd (omega arith)
top_nodes-more level (next ∷ levels) some = refl

module _ (make : List Node → Node) where
  module _ (at_start at_end : Bool) where
    -- there is at most one, with one number of parents
    pub IsCanonicalBy-unique : {nodes : List Node} {levels others : List Level} {work others_work : ℕ} → IsCanonicalBy make at_start at_end nodes levels work →
        IsCanonicalBy make at_start at_end nodes others others_work → (levels ≡ others) × (work ≡ others_work)
    IsCanonicalBy-unique (whole none) (whole none') = (refl, refl)
    IsCanonicalBy-unique (whole none) (collapsed split cutting canonical) = absurd (none _ _ _ split)
    IsCanonicalBy-unique (collapsed split cutting canonical) (whole none) = absurd (none _ _ _ split)
    IsCanonicalBy-unique {others_work = n} (collapsed {nodes} {left} {middle} {right} {groups} {levels} {work} split cutting canonical) (collapsed {left = left'} {middle = middle'} {right = right'} {groups = groups'} {levels = levels'} {work = work'} split' cutting' canonical') =
        let parts = same_split at_start at_end nodes left middle right left' middle' right' split split' in
        let same_groups : groups' ≡ groups = Groups-unique middle groups' groups (subst (λ (l : List Node). Groups l groups') (sym parts.1) cutting') cutting in
        let rest = IsCanonicalBy-unique canonical (subst (λ (g : List (List Node)). IsCanonicalBy make at_start at_end (map make g) levels' work') same_groups canonical') in
        let below : record { left = left; right = right } ∷ levels ≡ record { left = left'; right = right' } ∷ levels' = cc in
        let made : length groups + work ≡ length groups' + work' = cc in
        (below, made)

    canonical_within : (bound : ℕ) (nodes : List Node) → length nodes ≤ bound → (levels : List Level) × (work : ℕ) × IsCanonicalBy make at_start at_end nodes levels work
    canonical_within zero nodes h = (record { left = nodes; right = [] } ∷ [], 0, whole (λ left middle right split. let several = split.several in omega arith))
    canonical_within (suc bound) nodes h = elim (split_or_none at_start at_end nodes) [
      | inr none ↦ (record { left = nodes; right = [] } ∷ [], 0, whole none)
      | inl found ↦
          let cutting = Groups-exist found.middle in
          let fewer = groups_fewer at_start at_end nodes found.left found.middle found.right cutting.0 found.split cutting.1 in
          let rest = canonical_within bound (map make cutting.0) (omega (arith, length-map cutting.0 make)) in
          (record { left = found.left; right = found.right } ∷ rest.0, length cutting.0 + rest.1, collapsed found.split cutting.1 rest.2)
    ]

    -- there is one
    pub canonical_exists : (nodes : List Node) → (levels : List Level) × (work : ℕ) × IsCanonicalBy make at_start at_end nodes levels work
    canonical_exists nodes = canonical_within (length nodes) nodes (omega arith)

    pub levels_some : {nodes : List Node} {levels : List Level} {work : ℕ} → IsCanonicalBy make at_start at_end nodes levels work → 0 < length levels
    levels_some (whole none) = omega arith
    levels_some (collapsed split cutting canonical) = omega arith

  root_of_few : (nodes : List Node) → length nodes < 2 → IsRootBy make nodes (hash_of_first (nodes ++ []))
  root_of_few [] few = no_node
  root_of_few (node ∷ []) few = one_node
  root_of_few (node ∷ next ∷ nodes) few = absurd (omega arith)

  -- with both ends marked, the top has at most one node, and its hash is the root of the list
  pub closed_root : {nodes : List Node} {levels : List Level} {work : ℕ} → IsCanonicalBy make true true nodes levels work →
      (length (top_nodes levels) ≤ 1) × IsRootBy make nodes (top_hash levels)
  closed_root (whole {nodes} none) =
      let few : length nodes < 2 = elim (cases_lt (length nodes) 2) [ inl few ↦ few | inr several ↦ absurd (none [] nodes [] (closed_split nodes several)) ] in
      (omega (arith, length-append nodes []), root_of_few nodes few)
  closed_root (collapsed {nodes} {left} {middle} {right} {groups} {levels} {work} split cutting canonical) =
      let rest = closed_root canonical in
      let top = top_nodes-more (record { left = left; right = right }) levels (levels_some true true canonical) in
      let all = (same_split true true nodes [] nodes [] left middle right (closed_split nodes split.several) split).1 in (
        subst (λ (l : List Node). length l ≤ 1) (sym top) rest.0,
        subst (λ (l : List Node). IsRootBy make nodes (hash_of_first l)) (sym top)
            (of_parents split.several (subst (λ (l : List Node). Groups l groups) (sym all) cutting) rest.1),
      )
