-- How large a canonical subtree is.
use Rattle.std.proofs.Common.{◌≡◌, ℕ, zero, suc, ◌+◌, ◌^◌, ◌<◌, ◌≤◌, ◌↔◌, Bool, List, ◌++◌, length, ap, inl, inr, arith, length-append}
use Rattle.std.proofs.lemmas.Bool.{cases_lt}
use Rattle.std.proofs.lemmas.List.{length-map}
use Rattle.xet_roots.specs.Groups.{Node}
use Rattle.subtree_levels.specs.Levels.{Level, node_count}
use Rattle.subtree_levels.specs.Canonical.{IsCanonicalBy}
use Rattle.subtree_levels.specs.Canonical.IsCanonicalBy.{whole, collapsed}
use Rattle.xet_roots.proofs.Roots.OneRoot.{Groups-few, Groups-some}
use Rattle.subtree_levels.proofs.Canonical.Splits.{middle_some, middle_within}

module _ (make : List Node → Node) (at_start at_end : Bool) where
  -- it keeps no more nodes than its list has
  pub few_nodes : {nodes : List Node} {levels : List Level} {work : ℕ} → IsCanonicalBy make at_start at_end nodes levels work → node_count levels ≤ length nodes
  few_nodes (whole {nodes} none) = omega arith
  few_nodes (collapsed {nodes} {left} {middle} {right} {groups} {levels} {work} split cutting canonical) =
      let rest = few_nodes canonical in
      let few = Groups-few middle groups cutting in
      let some = middle_some at_start at_end nodes left middle right split in
      let len = ap length split.parts in
      omega (arith, length-map groups make, length-append left (middle ++ right), length-append middle right)

  -- its list has more nodes than 3 to the power of its levels less 2
  pub few_levels : {nodes : List Node} {levels : List Level} {work : ℕ} → IsCanonicalBy make at_start at_end nodes levels work → (n : ℕ) → length levels ≡ n + 2 →
      3 ^ n < length nodes
  few_levels (whole {nodes} none) n e = absurd (omega arith)
  few_levels (collapsed split cutting canonical) zero e = let several = split.several in omega arith
  few_levels (collapsed {nodes} {left} {middle} {right} {groups} {levels} {work} split cutting canonical) (suc n) e =
      let rest = few_levels canonical n (omega arith) in
      let few = Groups-few middle groups cutting in
      let within = middle_within at_start at_end nodes left middle right split in
      omega (arith, length-map groups make)

  -- it keeps a node where its list has one
  pub some_node : {nodes : List Node} {levels : List Level} {work : ℕ} → IsCanonicalBy make at_start at_end nodes levels work → 0 < length nodes → 0 < node_count levels
  some_node (whole {nodes} none) some = omega arith
  some_node (collapsed {nodes} {left} {middle} {right} {groups} {levels} {work} split cutting canonical) some =
      let made = Groups-some middle groups cutting (middle_some at_start at_end nodes left middle right split) in
      let rest = some_node canonical (omega (arith, length-map groups make)) in
      omega arith

  pub nodes_of_none : {nodes : List Node} {levels : List Level} {work : ℕ} → IsCanonicalBy make at_start at_end nodes levels work → node_count levels ≡ 0 ↔ (length nodes ≡ 0)
  nodes_of_none {nodes} canonical = (
    λ none. elim (cases_lt 0 (length nodes)) [
      | inl some ↦ absurd (let kept = some_node canonical some in omega arith)
      | inr few ↦ omega arith
    ],
    λ none. let few = few_nodes canonical in omega arith,
  )
