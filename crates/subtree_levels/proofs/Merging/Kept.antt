-- What merging preserves: the sides, the top and the sizes of the operands, whether or not they come from lists.
use Rattle.std.proofs.Common.{◌≡◌, ℕ, ◌+◌, ◌<◌, ◌≤◌, ◌⊎◌, Bool, true, false, List, [], ◌∷◌, ◌++◌, length, map, refl, sym, ap, subst, ◌∙◌, inl, inr, arith, append_assoc, append-nil, length-append}
use Rattle.std.proofs.lemmas.Bool.{false≢true}
use Rattle.std.proofs.lemmas.List.{length-map}
use Rattle.xet_roots.specs.Groups.{Node}
use Rattle.xet_roots.specs.Roots.{total_size, parent_by, parent}
use Rattle.stable_points.specs.StablePoints.{EndsStable, BeginsStable}
use Rattle.subtree_levels.specs.Levels.{Level, top_nodes, levels_size}
use Rattle.subtree_levels.specs.Canonical.{IsCanonicalBy}
use Rattle.subtree_levels.specs.Canonical.IsCanonicalBy.{whole, collapsed}
use Rattle.subtree_levels.specs.WellFormed.{IsWellFormed}
use Rattle.subtree_levels.specs.Steps.LevelMerging.{IsLeftUnder, IsRightUnder, HaveSides, IsHighAfter, IsLowBefore, IsLevelMerge}
use Rattle.subtree_levels.specs.Steps.LevelMerging.IsMergeSplit.{both, left_alone, right_alone}
use Rattle.subtree_levels.specs.Steps.LevelMerging.IsLevelMerge.{all_in_sight, appended, prepended, step}
use Rattle.xet_roots.proofs.Roots.OneRoot.{Groups-some}
use Rattle.xet_roots.proofs.Roots.Making.{total_size-are_parents}
use Rattle.stable_points.proofs.StablePoints.CutPlaces.{EndsStable-append}
use Rattle.subtree_levels.proofs.Canonical.Splits.{middle_some}
use Rattle.xet_roots.proofs.Roots.Making.{total_size-append}
use Rattle.subtree_levels.proofs.OfLevels.Sides.{well_formed_from_sides}
use Rattle.subtree_levels.proofs.Canonical.Collapsing.{levels_size-canonical}
use Rattle.subtree_levels.proofs.Canonical.OneSubtree.{top_nodes-more, levels_some, closed_root}
use Rattle.stable_points.proofs.StablePoints.Scan.{BeginsStable-append}
use Rattle.subtree_levels.proofs.Merging.Sides.{first_leaves_none, last_leaves_none, low_side, high_side}

-- ---- sides

sides_below : (at_start at_end : Bool) (level : Level) (levels : List Level) → IsLeftUnder at_start level.left → IsRightUnder at_end level.right →
    HaveSides at_start at_end levels → HaveSides at_start at_end (level ∷ levels)
sides_below at_start at_end level [] left right h = elim h [ ]
sides_below at_start at_end level (next ∷ levels) left right h = (left, right, h)

left_side : (at_start : Bool) (left middle back : List Node) (front : List Node) → front ++ back ≡ left ++ middle → EndsStable back → IsLowBefore at_start left middle → IsLeftUnder at_start left
left_side true left middle back front seen ends low = low
left_side false left middle back front seen ends (inl first) = (first.stable.ends, first_leaves_none left middle first)
left_side false left [] back front seen ends (inr none) = (subst EndsStable (seen ∙ append-nil left) (EndsStable-append front back ends), none.1)
left_side false left (x ∷ middle) back front seen ends (inr none) = absurd (let len = ap length none.0 in omega arith)

right_side : (at_end : Bool) (middle right front back : List Node) → front ++ back ≡ middle ++ right → IsRightUnder false front → IsHighAfter at_end middle right → IsRightUnder at_end right
right_side true middle right front back seen side high = high
right_side false middle right front back seen side (inl last) =
    let here = last side.0.first side.0.first_cut in
    (here.stable.begins, last_leaves_none (side.0.first ∷ middle) right here)
right_side false [] right front back seen side (inr none) = (subst BeginsStable seen (BeginsStable-append front back side.0), none.1)
right_side false (x ∷ middle) right front back seen side (inr none) = absurd (let len = ap length none.0 in omega arith)

module _ (make : List Node → Node) (at_start at_end : Bool) where
  pub canonical_sides : {nodes : List Node} {levels : List Level} {made : ℕ} → IsCanonicalBy make at_start at_end nodes levels made → HaveSides at_start at_end levels
  canonical_sides (whole none) = refl
  canonical_sides (collapsed {left = left} {middle = middle} {right = right} {levels = levels} split cutting canonical) =
      sides_below at_start at_end (record { left = left; right = right }) levels (low_side at_start left (middle ++ right) split.low)
      (high_side at_end middle right split.high) (canonical_sides canonical)

  pub level_merge_sides : {xs ys levels : List Level} {carry : List Node} {made : ℕ} → IsLevelMerge make at_start at_end xs carry ys levels made →
      HaveSides at_start false xs → HaveSides false at_end ys → HaveSides at_start at_end levels
  level_merge_sides (all_in_sight canonical) hx hy = canonical_sides canonical
  level_merge_sides (appended unmarked none) hx hy = refl
  level_merge_sides (prepended unmarked none) hx hy = refl
  level_merge_sides (step {levels = levels} {left = left} {right = right} (both {next_x = next_x} {next_y = next_y} {xs = xs} {ys = ys} left_is seen right_is) cutting rest) hx hy =
      sides_below at_start at_end (record { left = left; right = right }) levels (subst (IsLeftUnder at_start) (sym left_is) hx.0)
      (subst (IsRightUnder at_end) (sym right_is) hy.1) (level_merge_sides rest hx.2 hy.2)
  level_merge_sides (step {levels = levels} {carry = carry} {left = left} {middle = middle} {right = right} (left_alone {x = x} {y = y} left_is seen high) cutting rest) hx hy =
      sides_below at_start at_end (record { left = left; right = right }) levels (subst (IsLeftUnder at_start) (sym left_is) hx.0)
      (right_side at_end middle right x.right (carry ++ y.left) seen hx.1 high) (level_merge_sides rest hx.2 refl)
  level_merge_sides (step {levels = levels} {carry = carry} {left = left} {middle = middle} {right = right} (right_alone {x = x} {y = y} seen low right_is) cutting rest) hx hy =
      sides_below at_start at_end (record { left = left; right = right }) levels
      (left_side at_start left middle y.left (x.left ++ carry) (append_assoc x.left carry y.left ∙ seen) hy.0.0 low)
      (subst (IsRightUnder at_end) (sym right_is) hy.1) (level_merge_sides rest refl hy.2)

  pub level_merge_some : {xs ys levels : List Level} {carry : List Node} {made : ℕ} → IsLevelMerge make at_start at_end xs carry ys levels made → 0 < length levels
  level_merge_some (all_in_sight canonical) = levels_some make at_start at_end canonical
  level_merge_some (appended unmarked none) = omega arith
  level_merge_some (prepended unmarked none) = omega arith
  level_merge_some (step split cutting rest) = omega arith

  -- ---- the top

  abbrev HasTop : List Level → Type 0
  HasTop levels = 0 < length (top_nodes levels)

  HasTop-more : (level : Level) (levels : List Level) → 0 < length levels → HasTop levels → HasTop (level ∷ levels)
  HasTop-more level levels some top = subst (λ (l : List Node). 0 < length l) (sym (top_nodes-more level levels some)) top

  canonical_top : {nodes : List Node} {levels : List Level} {made : ℕ} → IsCanonicalBy make at_start at_end nodes levels made → 0 < length nodes → HasTop levels
  canonical_top (whole {nodes} none) some = omega (arith, length-append nodes [])
  canonical_top (collapsed {nodes} {left} {middle} {right} {groups} {levels} split cutting canonical) some =
      let groups_some = Groups-some middle groups cutting (middle_some at_start at_end nodes left middle right split) in
      HasTop-more (record { left = left; right = right }) levels (levels_some make at_start at_end canonical)
      (canonical_top canonical (omega (arith, length-map groups make)))

  -- where an operand, or what is carried, has a node for the top
  level_merge_has_top : {xs ys levels : List Level} {carry : List Node} {made : ℕ} → IsLevelMerge make at_start at_end xs carry ys levels made →
      HaveSides at_start false xs → HaveSides false at_end ys → (1 < length xs → HasTop xs) → (1 < length ys → HasTop ys) →
      HasTop xs ⊎ HasTop ys → HasTop levels
  level_merge_has_top (all_in_sight {x} {y} {carry} canonical) hx hy top_x top_y (inl some) =
      let none = ap length hx in
      canonical_top canonical (omega (arith, length-append x.left x.right, length-append x.left (carry ++ y.left)))
  level_merge_has_top (all_in_sight {x} {y} {carry} canonical) hx hy top_x top_y (inr some) =
      let none = ap length hy in
      canonical_top canonical (omega (arith, length-append y.left y.right, length-append x.left (carry ++ y.left), length-append carry y.left))
  level_merge_has_top (appended {x} {y} {carry} unmarked none) hx hy top_x top_y (inl some) =
      let none_x = ap length hx in
      omega (arith, length-append x.left x.right, length-append x.left (carry ++ y.left), length-append (x.left ++ (carry ++ y.left)) [])
  level_merge_has_top (prepended {x} {y} {carry} unmarked none) hx hy top_x top_y (inl some) =
      let none_x = ap length hx in
      omega (arith, length-append x.left x.right, length-append x.left (carry ++ y.left), length-append (x.left ++ (carry ++ y.left)) [])
  level_merge_has_top (appended {x} {y} {carry} unmarked none) hx hy top_x top_y (inr some) =
      let none_y = ap length hy in
      omega (arith, length-append y.left y.right, length-append x.left (carry ++ y.left), length-append carry y.left, length-append (x.left ++ (carry ++ y.left)) [])
  level_merge_has_top (prepended {x} {y} {carry} unmarked none) hx hy top_x top_y (inr some) =
      let none_y = ap length hy in
      omega (arith, length-append y.left y.right, length-append x.left (carry ++ y.left), length-append carry y.left, length-append (x.left ++ (carry ++ y.left)) [])
  level_merge_has_top (step {levels = levels} {left = left} {right = right} (both left_is seen right_is) cutting rest) hx hy top_x top_y some =
      let here = top_x (omega arith) in
      HasTop-more (record { left = left; right = right }) levels (level_merge_some rest)
      (level_merge_has_top rest hx.2 hy.2 (λ _. here) (λ _. top_y (omega arith)) (inl here))
  level_merge_has_top (step {levels = levels} {left = left} {right = right} (left_alone left_is seen high) cutting rest) hx hy top_x top_y some =
      let here = top_x (omega arith) in
      HasTop-more (record { left = left; right = right }) levels (level_merge_some rest)
      (level_merge_has_top rest hx.2 refl (λ _. here) (λ more. absurd (omega arith)) (inl here))
  level_merge_has_top (step {levels = levels} {left = left} {right = right} (right_alone seen low right_is) cutting rest) hx hy top_x top_y some =
      let here = top_y (omega arith) in
      HasTop-more (record { left = left; right = right }) levels (level_merge_some rest)
      (level_merge_has_top rest refl hy.2 (λ more. absurd (omega arith)) (λ _. here) (inr here))

  pub canonical_top_below : {nodes : List Node} {levels : List Level} {made : ℕ} → IsCanonicalBy make at_start at_end nodes levels made → 1 < length levels → HasTop levels
  canonical_top_below (whole none) more = absurd (omega arith)
  canonical_top_below (collapsed {nodes} split cutting canonical) more =
      canonical_top (collapsed split cutting canonical) (let several = split.several in omega arith)

  pub level_merge_top : {xs ys levels : List Level} {carry : List Node} {made : ℕ} → IsLevelMerge make at_start at_end xs carry ys levels made →
      HaveSides at_start false xs → HaveSides false at_end ys → (1 < length xs → HasTop xs) → (1 < length ys → HasTop ys) →
      1 < length levels → HasTop levels
  level_merge_top (all_in_sight canonical) hx hy top_x top_y more = canonical_top_below canonical more
  level_merge_top (appended unmarked none) hx hy top_x top_y more = absurd (omega arith)
  level_merge_top (prepended unmarked none) hx hy top_x top_y more = absurd (omega arith)
  level_merge_top (step (both left_is seen right_is) cutting rest) hx hy top_x top_y more =
      level_merge_has_top (step (both left_is seen right_is) cutting rest) hx hy top_x top_y (inl (top_x (omega arith)))
  level_merge_top (step (left_alone left_is seen high) cutting rest) hx hy top_x top_y more =
      level_merge_has_top (step (left_alone left_is seen high) cutting rest) hx hy top_x top_y (inl (top_x (omega arith)))
  level_merge_top (step (right_alone seen low right_is) cutting rest) hx hy top_x top_y more =
      level_merge_has_top (step (right_alone seen low right_is) cutting rest) hx hy top_x top_y (inr (top_y (omega arith)))

-- a canonical subtree is well formed
pub canonical_well_formed : (at_start at_end : Bool) {nodes : List Node} {levels : List Level} {made : ℕ} → IsCanonicalBy parent at_start at_end nodes levels made →
    IsWellFormed (record { at_start = at_start; at_end = at_end; levels = levels })
canonical_well_formed at_start at_end {nodes} {levels} {made} h = well_formed_from_sides at_start at_end levels (canonical_sides parent at_start at_end h)
    (λ start end. (closed_root parent (subst (λ (e : Bool). IsCanonicalBy parent true e nodes levels made) end (subst (λ (s : Bool). IsCanonicalBy parent s at_end nodes levels made) start h))).0)
    (canonical_top_below parent at_start at_end h)

-- with both ends marked
pub level_merge_one : (make : List Node → Node) {xs ys levels : List Level} {carry : List Node} {made : ℕ} → IsLevelMerge make true true xs carry ys levels made →
    length (top_nodes levels) ≤ 1
level_merge_one make (all_in_sight canonical) = (closed_root make canonical).0
level_merge_one make (appended unmarked none) = absurd (false≢true (sym unmarked))
level_merge_one make (prepended unmarked none) = absurd (false≢true (sym unmarked))
level_merge_one make (step {levels = levels} {left = left} {right = right} split cutting rest) =
    subst (λ (l : List Node). length l ≤ 1) (sym (top_nodes-more (record { left = left; right = right }) levels (level_merge_some make true true rest))) (level_merge_one make rest)

-- ---- sizes

pub level_merge_size : (hash : List Node → List ℕ) (at_start at_end : Bool) {xs ys levels : List Level} {carry : List Node} {made : ℕ} → IsLevelMerge (parent_by hash) at_start at_end xs carry ys levels made →
    HaveSides at_start false xs → HaveSides false at_end ys → levels_size levels ≡ levels_size xs + (total_size carry + levels_size ys)
level_merge_size hash at_start at_end (all_in_sight {x} {y} {carry} canonical) hx hy =
    let size = levels_size-canonical hash canonical in
    let none_x = ap total_size hx in
    let none_y = ap total_size hy in
    omega (arith, total_size-append x.left (carry ++ y.left), total_size-append carry y.left)
level_merge_size hash at_start at_end (appended {x} {y} {carry} unmarked none) hx hy =
    let none_x = ap total_size hx in
    let none_y = ap total_size hy in
    omega (arith, total_size-append x.left (carry ++ y.left), total_size-append carry y.left)
level_merge_size hash at_start at_end (prepended {x} {y} {carry} unmarked none) hx hy =
    let none_x = ap total_size hx in
    let none_y = ap total_size hy in
    omega (arith, total_size-append x.left (carry ++ y.left), total_size-append carry y.left)
level_merge_size hash at_start at_end (step {carry = carry} {left = left} {middle = middle} {right = right} {groups = groups} (both {x = x} {y = y} left_is seen right_is) cutting rest) hx hy =
    let above_size = level_merge_size hash at_start at_end rest hx.2 hy.2 in
    let made = total_size-are_parents hash middle (map (parent_by hash) groups) (groups, cutting, refl) in
    let left_size = ap total_size left_is in
    let right_size = ap total_size right_is in
    let seen_size = ap total_size seen in
    omega (arith, total_size-append x.right (carry ++ y.left), total_size-append carry y.left)
level_merge_size hash at_start at_end (step {carry = carry} {left = left} {middle = middle} {right = right} {groups = groups} (left_alone {x = x} {y = y} left_is seen high) cutting rest) hx hy =
    let above_size = level_merge_size hash at_start at_end rest hx.2 refl in
    let made = total_size-are_parents hash middle (map (parent_by hash) groups) (groups, cutting, refl) in
    let left_size = ap total_size left_is in
    let none_y = ap total_size hy in
    let seen_size = ap total_size seen in
    omega (arith, total_size-append x.right (carry ++ y.left), total_size-append carry y.left, total_size-append middle right)
level_merge_size hash at_start at_end (step {carry = carry} {left = left} {middle = middle} {right = right} {groups = groups} (right_alone {x = x} {y = y} seen low right_is) cutting rest) hx hy =
    let above_size = level_merge_size hash at_start at_end rest refl hy.2 in
    let made = total_size-are_parents hash middle (map (parent_by hash) groups) (groups, cutting, refl) in
    let right_size = ap total_size right_is in
    let none_x = ap total_size hx in
    let seen_size = ap total_size seen in
    omega (arith, total_size-append x.left (carry ++ y.left), total_size-append carry y.left, total_size-append left middle)
