-- Building a canonical subtree level by level.
use Rattle.std.proofs.Common.{◌≡◌, ℕ, ◌+◌, ◌*◌, ◌<◌, ◌≤◌, ◌^◌, Bool, List, [], ◌∷◌, ◌++◌, length, map, refl, sym, ap, subst, ◌∙◌, arith, append_assoc, length-append}
use Rattle.std.proofs.lemmas.List.{length-map}
use Rattle.xet_roots.specs.Groups.{Node}
use Rattle.xet_roots.specs.Roots.{total_size, parent_by}
use Rattle.xet_roots.specs.Steps.Scan.{AreParents}
use Rattle.subtree_levels.specs.Levels.{Level, levels_size}
use Rattle.subtree_levels.specs.Canonical.{IsSplit, IsCanonicalBy}
use Rattle.subtree_levels.specs.Canonical.IsCanonicalBy.{whole, collapsed}
use Rattle.subtree_levels.specs.Steps.Building.{StandBelow}
use Rattle.xet_roots.proofs.Roots.Making.{total_size-are_parents, AreParents-few}
use Rattle.xet_roots.proofs.Roots.Making.{total_size-append}

-- ---- sizes

-- the size of a list with a split
split_size : (at_start at_end : Bool) (nodes left middle right : List Node) → IsSplit at_start at_end nodes left middle right →
    total_size nodes ≡ total_size left + (total_size middle + total_size right)
split_size at_start at_end nodes left middle right h =
    ap total_size h.parts ∙ total_size-append left (middle ++ right) ∙ ap (λ (n : ℕ). total_size left + n) (total_size-append middle right)

-- a canonical subtree has the size of its list
pub levels_size-canonical : (hash : List Node → List ℕ) {at_start at_end : Bool} {nodes : List Node} {levels : List Level} {work : ℕ} →
    IsCanonicalBy (parent_by hash) at_start at_end nodes levels work → levels_size levels ≡ total_size nodes
levels_size-canonical hash (whole {nodes} none) = omega arith
levels_size-canonical hash {at_start} {at_end} (collapsed {nodes} {left} {middle} {right} {groups} {levels} {work} split cutting canonical) =
    let rest = levels_size-canonical hash canonical in
    let made = total_size-are_parents hash middle (map (parent_by hash) groups) (groups, cutting, refl) in
    let whole_size = split_size at_start at_end nodes left middle right split in
    omega arith

module _ (at_start at_end : Bool) (nodes left middle right : List Node) (split : IsSplit at_start at_end nodes left middle right) where
  pub middle_fits : total_size nodes < 2 ^ 64 → total_size middle < 2 ^ 64
  middle_fits fits = let size = split_size at_start at_end nodes left middle right split in omega arith

  pub parents_fit : (hash : List Node → List ℕ) (parents : List Node) → AreParents (parent_by hash) middle parents → total_size nodes < 2 ^ 64 → total_size parents < 2 ^ 64
  parents_fit hash parents made fits =
      let size = split_size at_start at_end nodes left middle right split in
      let same = total_size-are_parents hash middle parents made in
      omega arith

  -- twice as many nodes as parents
  pub parents_half : (make : List Node → Node) (parents : List Node) → AreParents make middle parents → 2 * length parents ≤ length nodes
  parents_half make parents made =
      let few = AreParents-few make middle parents made in
      let several = split.several in
      let len = ap length split.parts in
      omega (arith, length-append left (middle ++ right), length-append middle right)

-- ---- levels

module _ (make : List Node → Node) (at_start at_end : Bool) (all : List Node) where
  -- nothing is built yet
  pub stand_start : StandBelow make at_start at_end all [] 0 all
  stand_start = λ top work canonical.
      let none_done : work ≡ 0 + work = omega arith in
      subst (λ (n : ℕ). IsCanonicalBy make at_start at_end all top n) none_done canonical

  -- no split: the nodes are the top
  pub stand_whole : (levels : List Level) (done : ℕ) (nodes : List Node) → StandBelow make at_start at_end all levels done nodes →
      ((left middle right : List Node) → IsSplit at_start at_end nodes left middle right → ⊥) →
      IsCanonicalBy make at_start at_end all (levels ++ record { left = nodes; right = [] } ∷ []) (done + 0)
  stand_whole levels done nodes h none = h (record { left = nodes; right = [] } ∷ []) 0 (whole none)

  -- a split: the canonical subtree of the parents goes on top
  pub stand_more : (levels : List Level) (done : ℕ) (nodes left middle right parents : List Node) → StandBelow make at_start at_end all levels done nodes →
      IsSplit at_start at_end nodes left middle right → AreParents make middle parents →
      StandBelow make at_start at_end all (levels ++ record { left = left; right = right } ∷ []) (done + length parents) parents
  stand_more levels done nodes left middle right parents h split made =
      let level : Level = record { left = left; right = right } in
      λ top work canonical.
      let above : IsCanonicalBy make at_start at_end (map make made.0) top work =
      subst (λ (l : List Node). IsCanonicalBy make at_start at_end l top work) made.2 canonical in
      let len = ap length made.2 in
      let sum : done + (length made.0 + work) ≡ (done + length parents) + work = omega (arith, length-map made.0 make) in
      subst (λ (n : ℕ). IsCanonicalBy make at_start at_end all ((levels ++ level ∷ []) ++ top) n) sum
      (subst (λ (l : List Level). IsCanonicalBy make at_start at_end all l (done + (length made.0 + work))) (sym (append_assoc levels (level ∷ []) top))
      (h (level ∷ top) (length made.0 + work) (collapsed split made.1 above)))
