-- Levels changed in place: the lowest ones get other nodes on one side, the highest of them first.
use Rattle.std.proofs.Common.{◌≡◌, Bool, ℕ, zero, suc, ◌+◌, ◌<◌, ◌≤◌, List, [], ◌∷◌, ◌++◌, length, set, get_or, take, drop, refl, ap, arith}
use Rattle.xet_roots.specs.Groups.{Node}
use Rattle.subtree_levels.specs.Levels.{Level, left_at, right_at}
use Rattle.subtree_levels.specs.Steps.LevelMerging.{HaveSides, with_side, lowest_with, with_inner, with_left}
use Rattle.subtree_levels.specs.declared.levels.Operand.{Operand}

-- levels of which the lowest have other nodes on one side
abbrev pub put : Operand → List (List Node) → List Level → List Level
put kept sides levels = lowest_with kept sides levels ++ drop (length sides) levels

module _ (kept : Operand) where
  -- the last of the lists can be put first
  pub put-last : (sides : List (List Node)) (side : List Node) (levels : List Level) (d : Level) → length sides < length levels →
      put kept (sides ++ side ∷ []) levels ≡ put kept sides (set levels (length sides) (with_side kept (get_or levels (length sides) d) side))
  put-last sides side [] d within = absurd (omega arith)
  put-last [] side (level ∷ levels) d within = refl
  put-last (first ∷ sides) side (level ∷ levels) d within =
      ap (λ (l : List Level). with_side kept level first ∷ l) (put-last sides side levels d (omega arith))

  -- those with levels in the place of the others
  pub put-in_front : (sides : List (List Node)) (levels others : List Level) → length sides ≤ length levels →
      put kept sides (take (length sides) levels ++ others) ≡ lowest_with kept sides levels ++ others
  put-in_front [] levels others within = refl
  put-in_front (side ∷ sides) [] others within = absurd (omega arith)
  put-in_front (side ∷ sides) (level ∷ levels) others within =
      ap (λ (l : List Level). with_side kept level side ∷ l) (put-in_front sides levels others (omega arith))

  pub lowest_with-more : (sides : List (List Node)) (side : List Node) (levels : List Level) → length sides < length levels →
      lowest_with kept (sides ++ side ∷ []) levels
      ≡ lowest_with kept sides levels ++ with_side kept (record { left = left_at (drop (length sides) levels) 0; right = right_at (drop (length sides) levels) 0 }) side ∷ []
  lowest_with-more sides side [] within = absurd (omega arith)
  lowest_with-more [] side (level ∷ levels) within = refl
  lowest_with-more (first ∷ sides) side (level ∷ levels) within =
      ap (λ (l : List Level). with_side kept level first ∷ l) (lowest_with-more sides side levels (omega arith))

-- ---- nodes put after those towards the back operand

pub with_inner-top : (levels : List Level) (at : ℕ) (more : List Node) (d : Level) → at + 1 ≡ length levels →
    set levels at (record { left = (get_or levels at d).left ++ more; right = (get_or levels at d).right }) ≡ take at levels ++ with_inner (drop at levels) more
with_inner-top [] at more d last = absurd (omega arith)
with_inner-top (top ∷ []) zero more d last = refl
with_inner-top (top ∷ []) (suc at) more d last = absurd (omega arith)
with_inner-top (level ∷ next ∷ levels) zero more d last = absurd (omega arith)
with_inner-top (level ∷ next ∷ levels) (suc at) more d last = ap (λ (l : List Level). level ∷ l) (with_inner-top (next ∷ levels) at more d (omega arith))

pub with_inner-below : (levels : List Level) (at : ℕ) (more : List Node) (d : Level) → at + 1 < length levels →
    set levels at (record { left = (get_or levels at d).left; right = (get_or levels at d).right ++ more }) ≡ take at levels ++ with_inner (drop at levels) more
with_inner-below [] at more d below = absurd (omega arith)
with_inner-below (top ∷ []) zero more d below = absurd (omega arith)
with_inner-below (top ∷ []) (suc at) more d below = absurd (omega arith)
with_inner-below (level ∷ next ∷ levels) zero more d below = refl
with_inner-below (level ∷ next ∷ levels) (suc at) more d below = ap (λ (l : List Level). level ∷ l) (with_inner-below (next ∷ levels) at more d (omega arith))

-- nodes put before the left ones of a level
pub with_left-at : (levels : List Level) (at : ℕ) (more : List Node) (d : Level) → at < length levels →
    set levels at (record { left = more ++ (get_or levels at d).left; right = (get_or levels at d).right }) ≡ take at levels ++ with_left (drop at levels) more
with_left-at [] at more d within = absurd (omega arith)
with_left-at (level ∷ levels) zero more d within = refl
with_left-at (level ∷ levels) (suc at) more d within = ap (λ (l : List Level). level ∷ l) (with_left-at levels at more d (omega arith))

-- ---- the levels above

pub sides-above : (at_start at_end : Bool) (n : ℕ) (levels : List Level) → n < length levels → HaveSides at_start at_end levels → HaveSides at_start at_end (drop n levels)
sides-above at_start at_end zero levels within sides = sides
sides-above at_start at_end (suc n) [] within sides = absurd (omega arith)
sides-above at_start at_end (suc n) (top ∷ []) within sides = absurd (omega arith)
sides-above at_start at_end (suc n) (level ∷ next ∷ levels) within sides = sides-above at_start at_end n (next ∷ levels) (omega arith) sides.2
