-- Merging level by level: the levels already made, what is left of the operands, and the whole that both give.
use Rattle.std.proofs.lemmas.List.{length-map}
use Rattle.subtree_levels.proofs.Merging.Bounds.{between_few, merge_count, step_room}
use Rattle.std.proofs.Common.{◌≡◌, ℕ, ◌+◌, ◌<◌, ◌≤◌, ◌^◌, Bool, true, false, List, [], ◌∷◌, ◌++◌, length, map, drop, sym, ap, subst, ◌∙◌, arith, append_assoc}
use Rattle.xet_roots.specs.Groups.{Node}
use Rattle.xet_roots.specs.Roots.{total_size, parent_by}
use Rattle.xet_roots.specs.Steps.Scan.{AreParents}
use Rattle.subtree_levels.specs.Levels.{Level, top_nodes, node_count, levels_size}
use Rattle.subtree_levels.specs.Subtree.{Subtree}
use Rattle.subtree_levels.specs.WellFormed.{IsWellFormed}
use Rattle.subtree_levels.specs.Steps.LevelMerging.{HaveSides, operand, above, inner_nodes, between, IsMergeSplit, IsLevelMerge, Sight, seen, sight_up, IsSightSplit, IsSightMerge}
use Rattle.subtree_levels.specs.Steps.LevelMerging.IsMergeSplit.{both, left_alone, right_alone}
use Rattle.subtree_levels.specs.Steps.LevelMerging.IsLevelMerge.{all_in_sight, step}
use Rattle.subtree_levels.specs.Canonical.{IsCanonicalBy}
use Rattle.subtree_levels.specs.Steps.Building.{AreOperands, MergeBelow, CanMerge, IsStored}
use Rattle.xet_roots.specs.Steps.Room.{most_made}
use Rattle.xet_roots.proofs.Roots.Making.{total_size-are_parents, AreParents-few}
use Rattle.xet_roots.proofs.Roots.Making.{total_size-append}
use Rattle.subtree_levels.proofs.OfLevels.Sides.{well_formed_sides, well_formed_from_sides}
use Rattle.subtree_levels.proofs.OfLevels.Reading.{operand-length, above-up}
use Rattle.subtree_levels.proofs.Merging.Kept.{level_merge_sides, level_merge_top, level_merge_one, level_merge_size}

-- ---- lengths and sizes

module _ (at_start at_end : Bool) where
  pub step_size : {xs ys : List Level} (carry : List Node) {left middle right : List Node} → IsMergeSplit at_start at_end xs ys (between xs carry ys) left middle right →
      levels_size (above xs) + (total_size middle + levels_size (above ys)) ≤ levels_size xs + (total_size carry + levels_size ys)
  step_size carry (both {x = x} {y = y} left_is seen right_is) =
      let size = ap total_size seen in
      omega (arith, total_size-append x.right (carry ++ y.left), total_size-append carry y.left)
  step_size carry {middle = middle} {right = right} (left_alone {x = x} {y = y} left_is seen high) =
      let size = ap total_size seen in
      omega (arith, total_size-append x.right (carry ++ y.left), total_size-append carry y.left, total_size-append middle right)
  step_size carry {left = left} {middle = middle} (right_alone {x = x} {y = y} seen low right_is) =
      let size = ap total_size seen in
      omega (arith, total_size-append x.left (carry ++ y.left), total_size-append carry y.left, total_size-append left middle)

-- ---- one level

module _ (hash : List Node → List ℕ) (made : ℕ) (sight : Sight) (can : CanMerge made sight) {left middle right : List Node} (split : IsSightSplit sight left middle right) where
  pub middle_fits : total_size middle < 2 ^ 64
  middle_fits =
      let size = step_size sight.at_start sight.at_end sight.carry split in
      let small = can.fits in
      omega arith

  pub can_merge_above : (parents : List Node) → AreParents (parent_by hash) middle parents → CanMerge (made + length parents) (sight_up 1 sight parents)
  can_merge_above parents are =
      let front_is = above-up sight.front can.some_front in
      let back_is = above-up sight.back can.some_back in
      let size = step_size sight.at_start sight.at_end sight.carry split in
      let made_size = total_size-are_parents hash middle parents are in
      let few = AreParents-few (parent_by hash) middle parents are in
      let enough = step_room (parent_by hash) sight.at_start sight.at_end sight.carry parents split few in
      let small = can.fits in
      let before = can.room in
      record {
        some_front = operand-length (drop 1 sight.front);
        some_back = operand-length (drop 1 sight.back);
        fits = rw (sym front_is, sym back_is) (omega arith);
        room = rw (sym front_is, sym back_is) (omega arith);
      }

-- all nodes in sight are few enough, and small enough
inner_size : (xs : List Level) → total_size (inner_nodes xs) ≤ levels_size xs
inner_size [] = omega arith
inner_size (top ∷ []) = omega arith
inner_size (level ∷ next ∷ levels) = omega arith

between_size : (xs : List Level) (carry : List Node) (ys : List Level) → total_size (between xs carry ys) ≤ levels_size xs + (total_size carry + levels_size ys)
between_size xs carry [] = let inner = inner_size xs in omega (arith, total_size-append (inner_nodes xs) carry)
between_size xs carry (y ∷ ys) =
    let inner = inner_size xs in
    omega (arith, total_size-append (inner_nodes xs) (carry ++ y.left), total_size-append carry y.left)

pub seen_fits : (made : ℕ) (sight : Sight) → CanMerge made sight → total_size (seen sight) < 2 ^ 64
seen_fits made sight can =
    let size = between_size sight.front sight.carry sight.back in
    let small = can.fits in
    omega arith

pub seen_room : (made : ℕ) (sight : Sight) → CanMerge made sight → made + length (seen sight) ≤ most_made
seen_room made sight can =
    let few = between_few sight.front sight.carry sight.back in
    let before = can.room in
    omega arith

all_seen : (make : List Node → Node) (at_start at_end : Bool) (xs ys : List Level) (carry : List Node) (top : List Level) (work : ℕ) → 0 < length xs → 0 < length ys →
    ¬ (1 < length xs) → ¬ (1 < length ys) → IsCanonicalBy make at_start at_end (between xs carry ys) top work → IsLevelMerge make at_start at_end xs carry ys top work
all_seen make at_start at_end [] ys carry top work some_x some_y one_x one_y canonical = absurd (omega arith)
all_seen make at_start at_end (x ∷ next ∷ xs) ys carry top work some_x some_y one_x one_y canonical = absurd (one_x (omega arith))
all_seen make at_start at_end (x ∷ []) [] carry top work some_x some_y one_x one_y canonical = absurd (omega arith)
all_seen make at_start at_end (x ∷ []) (y ∷ next ∷ ys) carry top work some_x some_y one_x one_y canonical = absurd (one_y (omega arith))
all_seen make at_start at_end (x ∷ []) (y ∷ []) carry top work some_x some_y one_x one_y canonical = all_in_sight canonical

module _ (make : List Node → Node) (whole : Sight) (levels : List Level) (done : ℕ) (sight : Sight) (below : MergeBelow make whole levels done sight)
    (some_front : 0 < length sight.front) (some_back : 0 < length sight.back) where
  pub merge_step : {left middle right : List Node} (parents : List Node) → IsSightSplit sight left middle right → AreParents make middle parents →
      MergeBelow make whole (levels ++ record { left = left; right = right } ∷ []) (done + length parents) (sight_up 1 sight parents)
  merge_step {left} {middle} {right} parents split made =
      let level : Level = record { left = left; right = right } in
      λ top work merged.
      let rest : IsLevelMerge make sight.at_start sight.at_end (above sight.front) (map make made.0) (above sight.back) top work =
      rw (above-up sight.front some_front, above-up sight.back some_back) (subst (λ (l : List Node). IsLevelMerge make sight.at_start sight.at_end (operand (drop 1 sight.front)) l (operand (drop 1 sight.back)) top work) made.2 merged) in
      let len = ap length made.2 in
      let sum : done + (length made.0 + work) ≡ (done + length parents) + work = omega (arith, length-map made.0 make) in
      subst (λ (n : ℕ). IsSightMerge make whole ((levels ++ level ∷ []) ++ top) n) sum
      (subst (λ (l : List Level). IsSightMerge make whole l (done + (length made.0 + work))) (sym (append_assoc levels (level ∷ []) top))
      (below (level ∷ top) (length made.0 + work) (step split made.1 rest)))

  -- where neither operand has levels above, all nodes are in sight
  pub merge_all : ¬ (1 < length sight.front) → ¬ (1 < length sight.back) → (top : List Level) (work : ℕ) →
      IsCanonicalBy make sight.at_start sight.at_end (seen sight) top work → IsSightMerge make whole (levels ++ top) (done + work)
  merge_all one_front one_back top work canonical =
      below top work (all_seen make sight.at_start sight.at_end sight.front sight.back sight.carry top work some_front some_back one_front one_back canonical)

-- ---- what is merged is well formed

module _ (hash : List Node → List ℕ) (at_start at_end : Bool) (xs ys levels : List Level) (work : ℕ) (h : IsLevelMerge (parent_by hash) at_start at_end xs [] ys levels work)
    (operands : AreOperands at_start at_end xs ys) where
  merge_size : levels_size levels ≡ levels_size xs + levels_size ys
  merge_size = let merged = level_merge_size hash at_start at_end h operands.sides_x operands.sides_y in omega arith

  one_at_top : at_start ≡ true → at_end ≡ true → length (top_nodes levels) ≤ 1
  one_at_top start end = level_merge_one (parent_by hash)
      (subst (λ (e : Bool). IsLevelMerge (parent_by hash) true e xs [] ys levels work) end (subst (λ (s : Bool). IsLevelMerge (parent_by hash) s at_end xs [] ys levels work) start h))

  merge_well_formed : IsWellFormed (record { at_start = at_start; at_end = at_end; levels = levels })
  merge_well_formed = well_formed_from_sides at_start at_end levels (level_merge_sides (parent_by hash) at_start at_end h operands.sides_x operands.sides_y) one_at_top
      (level_merge_top (parent_by hash) at_start at_end h operands.sides_x operands.sides_y operands.top_x operands.top_y)

-- two subtrees that a mark doesn't stand between
module _ (front back : Subtree) (x : IsWellFormed front) (y : IsWellFormed back) (no_end : front.at_end ≡ false) (no_start : back.at_start ≡ false) where
  pub operands : AreOperands front.at_start back.at_end front.levels back.levels
  operands = record {
    sides_x = subst (λ (e : Bool). HaveSides front.at_start e front.levels) no_end (well_formed_sides front.at_start front.at_end front.levels x);
    sides_y = subst (λ (s : Bool). HaveSides s back.at_end back.levels) no_start (well_formed_sides back.at_start back.at_end back.levels y);
    top_x = x.rule_11;
    top_y = y.rule_11;
  }

  -- and levels that theirs are merged to
  module _ (hash : List Node → List ℕ) (levels : List Level) (work : ℕ) (merged : IsLevelMerge (parent_by hash) front.at_start back.at_end front.levels [] back.levels levels work) where
    pub merged_size : levels_size levels ≡ levels_size front.levels + levels_size back.levels
    merged_size = merge_size hash front.at_start back.at_end front.levels back.levels levels work merged operands

    pub merged_well_formed : IsWellFormed (record { at_start = front.at_start; at_end = back.at_end; levels = levels })
    merged_well_formed = merge_well_formed hash front.at_start back.at_end front.levels back.levels levels work merged operands

    pub merged_stored : (size : ℕ) → size ≡ levels_size front.levels + levels_size back.levels → size < 2 ^ 64 → node_count front.levels + node_count back.levels < 2 ^ 64 →
        IsStored front.at_start back.at_end levels size
    merged_stored size size_is fits few = record {
      well_formed = merged_well_formed;
      size_is = size_is ∙ sym merged_size;
      fits = fits;
      few = let count = merge_count (parent_by hash) front.at_start back.at_end merged in omega arith;
    }
