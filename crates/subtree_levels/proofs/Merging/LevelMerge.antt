-- Merging levels: if the operands are the canonical subtrees of two lists, they are merged to that of both lists, one
-- after the other.
use Rattle.std.proofs.Common.{◌≡◌, ℕ, ◌+◌, ◌<◌, Bool, true, false, Option, Some, None, IfSome, IfNone, unwrap_or, List, [], ◌∷◌, ◌++◌, length, map, take, drop, refl, sym, ap, subst, ◌∙◌, inl, inr, arith, append_assoc, append-nil, length-append}
use Rattle.std.proofs.lemmas.List.{map-append}
use Rattle.xet_roots.specs.Groups.{Node, Groups}
use Rattle.stable_points.specs.StablePoints.{EndsStable, BeginsStable, NoStable, IsLastStable}
use Rattle.subtree_levels.specs.Levels.{Level, no_level, left_at, right_at}
use Rattle.subtree_levels.specs.Canonical.{IsLow, IsHigh, IsSplit, IsCanonicalBy}
use Rattle.subtree_levels.specs.Canonical.IsCanonicalBy.{whole, collapsed}
use Rattle.stable_points.specs.Steps.StableScan.{IsFront}
use Rattle.subtree_levels.specs.Steps.LevelMerging.{NoSplit, IsHighAfter, IsLowBefore, IsMergeSplit, IsLevelMerge}
use Rattle.subtree_levels.specs.Steps.LevelMerging.IsMergeSplit.{both, left_alone, right_alone}
use Rattle.subtree_levels.specs.Steps.LevelMerging.IsLevelMerge.{all_in_sight, appended, prepended, step}
use Rattle.xet_roots.proofs.Grouping.OneCutting.{Groups-unique}
use Rattle.stable_points.proofs.StablePoints.CutPlaces.{EndsStable-append, before_cut, after_cut, after_one}
use Rattle.stable_points.proofs.StablePoints.Boundaries.{Groups-after}
use Rattle.subtree_levels.proofs.Canonical.OneSubtree.{levels_some}
use Rattle.stable_points.proofs.StablePoints.Scan.{BeginsStable-append}
use Rattle.subtree_levels.proofs.Canonical.Splits.{BeginsStable-some}
use Rattle.subtree_levels.proofs.Merging.Sides.{first_from_sides, last_from_sides, last_leaves_none, low_before_more, high_after_more}
use Rattle.stable_points.proofs.StablePoints.Ends.{EndsStable-cut}

-- ---- one level

-- what is collapsed of nodes in sight after collapsed ones, together with these
high_after_split : (at_end : Bool) (before right middle right_of_all : List Node) → IsHigh false before right → BeginsStable (middle ++ right_of_all) →
    IsHighAfter at_end middle right_of_all → IsHigh at_end (before ++ middle) right_of_all
high_after_split true before right middle rest h begins high = high
high_after_split false before right [] rest h begins (inr none) = subst (λ (l : List Node). IsLastStable l rest) (sym (append-nil before)) (last_from_sides before rest h.stable.ends begins none.1)
high_after_split false before right (x ∷ middle) rest h begins (inr none) = absurd (let len = ap length none.0 in omega arith)
high_after_split false before right middle rest h begins (inl last) =
    let ends = EndsStable-cut before h.stable.ends in
    let here = last ends.1 ends.3 in
    last_from_sides (before ++ middle) rest (before_cut before middle ends (after_one ends.1 middle ends.3 here.stable.ends)) here.stable.begins
    (last_leaves_none (ends.1 ∷ middle) rest here)

pub low_before_split : (at_start : Bool) (left middle rest : List Node) → EndsStable (left ++ middle) → BeginsStable rest → IsLowBefore at_start left middle →
    IsLow at_start left (middle ++ rest)
low_before_split true left middle rest ends begins low = low
low_before_split false left middle rest ends begins (inl first) = low_before_more false left middle rest first
low_before_split false left [] rest ends begins (inr none) = first_from_sides left rest (subst EndsStable (append-nil left) ends) none.1 begins
low_before_split false left (x ∷ middle) rest ends begins (inr none) = absurd (let len = ap length none.0 in omega arith)

groups_of_none : (groups : List (List Node)) → Groups [] groups → groups ≡ []
groups_of_none groups cutting = Groups-unique [] groups [] cutting (record { joined = refl; are_groups = tt })

-- what is collapsed of nodes in sight before collapsed ones ends where groups end
groups_before_split : (at_start : Bool) (left middle rest : List Node) (groups others : List (List Node)) → EndsStable (left ++ middle) → IsLowBefore at_start left middle →
    Groups middle groups → Groups rest others → Groups (middle ++ rest) (groups ++ others)
groups_before_split true left middle rest groups others ends low = Groups-after middle rest groups others (inl (subst (λ (l : List Node). EndsStable (l ++ middle)) low ends))
groups_before_split false left middle rest groups others ends (inl first) =
    Groups-after middle rest groups others
    (after_cut left middle (EndsStable-cut left first.stable.ends) (BeginsStable-some middle first.stable.begins) ends)
groups_before_split false left [] rest groups others ends (inr none) = λ cutting more.
    subst (λ (g : List (List Node)). Groups rest (g ++ others)) (sym (groups_of_none groups cutting)) more
groups_before_split false left (x ∷ middle) rest groups others ends (inr none) = absurd (let len = ap length none.0 in omega arith)

-- ---- all levels

module _ (make : List Node → Node) (at_start at_end : Bool) where
  -- the canonical subtree of a list with a split, with its work
  level_merge_level : (nodes left middle right : List Node) (groups : List (List Node)) (levels : List Level) (work made : ℕ) → IsSplit at_start at_end nodes left middle right →
      Groups middle groups → IsCanonicalBy make at_start at_end (map make groups) levels work → length groups + work ≡ made →
      IsCanonicalBy make at_start at_end nodes (record { left = left; right = right } ∷ levels) made
  level_merge_level nodes left middle right groups levels work made split cutting canonical count =
      subst (IsCanonicalBy make at_start at_end nodes (record { left = left; right = right } ∷ levels)) count (collapsed split cutting canonical)

  -- both operands have levels above
  module _ (a b carry xl xm xr yl ym yr left middle right : List Node) (split_x : IsSplit at_start false a xl xm xr) (split_y : IsSplit false at_end b yl ym yr)
      (left_is : left ≡ xl) (middle_is : xr ++ (carry ++ yl) ≡ middle) (right_is : right ≡ yr) where
    after_low : (xm ++ xr) ++ (carry ++ b) ≡ (xm ++ (middle ++ ym)) ++ right
    after_low = rw (split_y.parts, sym middle_is, right_is) (simp append_assoc)

    both_split : IsSplit at_start at_end (a ++ (carry ++ b)) left (xm ++ (middle ++ ym)) right
    both_split = record {
      parts =
          ap (λ (l : List Node). l ++ (carry ++ b)) split_x.parts
          ∙ append_assoc xl (xm ++ xr) (carry ++ b)
          ∙ ap (λ (l : List Node). xl ++ l) after_low
          ∙ ap (λ (l : List Node). l ++ ((xm ++ (middle ++ ym)) ++ right)) (sym left_is);
      several = let several = split_x.several in omega (arith, length-append a (carry ++ b));
      low =
          subst (λ (l : List Node). IsLow at_start l ((xm ++ (middle ++ ym)) ++ right)) (sym left_is)
          (subst (IsLow at_start xl) after_low (low_before_more at_start xl (xm ++ xr) (carry ++ b) split_x.low));
      high =
          subst (IsHigh at_end (xm ++ (middle ++ ym))) (sym right_is)
          (subst (λ (l : List Node). IsHigh at_end l yr) (append_assoc xm middle ym) (high_after_more at_end (xm ++ middle) ym yr split_y.high));
    }

    both_groups : (gx gz gy : List (List Node)) → Groups xm gx → Groups middle gz → Groups ym gy → Groups (xm ++ (middle ++ ym)) (gx ++ (gz ++ gy))
    both_groups gx gz gy cutting_x cutting cutting_y =
        let ends = subst EndsStable (append_assoc xr carry yl ∙ middle_is) (EndsStable-append (xr ++ carry) yl split_y.low.stable.ends) in
        Groups-after xm (middle ++ ym) gx (gz ++ gy) (inl split_x.high.stable.ends) cutting_x (Groups-after middle ym gz gy (inl ends) cutting cutting_y)

  -- the front operand alone has levels above
  module _ (a b carry xl xm xr left middle right : List Node) (split_x : IsSplit at_start false a xl xm xr)
      (left_is : left ≡ xl) (seen : xr ++ (carry ++ b) ≡ middle ++ right) (high : IsHighAfter at_end middle right) where
    after_left : (xm ++ xr) ++ (carry ++ b) ≡ (xm ++ middle) ++ right
    after_left = append_assoc xm xr (carry ++ b) ∙ ap (λ (l : List Node). xm ++ l) seen ∙ sym (append_assoc xm middle right)

    left_split : IsSplit at_start at_end (a ++ (carry ++ b)) left (xm ++ middle) right
    left_split = record {
      parts =
          ap (λ (l : List Node). l ++ (carry ++ b)) split_x.parts
          ∙ append_assoc xl (xm ++ xr) (carry ++ b)
          ∙ ap (λ (l : List Node). xl ++ l) after_left
          ∙ ap (λ (l : List Node). l ++ ((xm ++ middle) ++ right)) (sym left_is);
      several = let several = split_x.several in omega (arith, length-append a (carry ++ b));
      low =
          subst (λ (l : List Node). IsLow at_start l ((xm ++ middle) ++ right)) (sym left_is)
          (subst (IsLow at_start xl) after_left (low_before_more at_start xl (xm ++ xr) (carry ++ b) split_x.low));
      high = high_after_split at_end xm xr middle right split_x.high
          (subst BeginsStable seen (BeginsStable-append xr (carry ++ b) split_x.high.stable.begins)) high;
    }

  -- the back operand alone has levels above
  module _ (a b carry yl ym yr left middle right : List Node) (split_y : IsSplit false at_end b yl ym yr)
      (seen : a ++ (carry ++ yl) ≡ left ++ middle) (low : IsLowBefore at_start left middle) (right_is : right ≡ yr) where
    ends_seen : EndsStable (left ++ middle)
    ends_seen = subst EndsStable (append_assoc a carry yl ∙ seen) (EndsStable-append (a ++ carry) yl split_y.low.stable.ends)

    after_right : middle ++ (ym ++ yr) ≡ (middle ++ ym) ++ right
    after_right = rw right_is (sym (append_assoc middle ym yr))

    right_split : IsSplit at_start at_end (a ++ (carry ++ b)) left (middle ++ ym) right
    right_split = record {
      parts =
          ap (λ (l : List Node). a ++ (carry ++ l)) split_y.parts
          ∙ sym (append_assoc a carry (yl ++ (ym ++ yr)))
          ∙ sym (append_assoc (a ++ carry) yl (ym ++ yr))
          ∙ ap (λ (l : List Node). l ++ (ym ++ yr)) (append_assoc a carry yl ∙ seen)
          ∙ append_assoc left middle (ym ++ yr)
          ∙ ap (λ (l : List Node). left ++ l) after_right;
      several = let several = split_y.several in omega (arith, length-append a (carry ++ b), length-append carry b);
      low = subst (IsLow at_start left) after_right (low_before_split at_start left middle (ym ++ yr) ends_seen split_y.low.stable.begins low);
      high = subst (IsHigh at_end (middle ++ ym)) (sym right_is) (high_after_more at_end middle ym yr split_y.high);
    }

    right_groups : (gz gy : List (List Node)) → Groups middle gz → Groups ym gy → Groups (middle ++ ym) (gz ++ gy)
    right_groups gz gy cutting cutting_y = groups_before_split at_start left middle ym gz gy ends_seen low cutting cutting_y

  canonical_of_none : (start end : Bool) → IsCanonicalBy make start end [] (no_level ∷ []) 0
  canonical_of_none start end = whole (λ left middle right split. let several = split.several in omega arith)

  parents_of_three : (gx gz gy : List (List Node)) → map make gx ++ (map make gz ++ map make gy) ≡ map make (gx ++ (gz ++ gy))
  parents_of_three gx gz gy = rw (map-append make gx (gz ++ gy), map-append make gz gy) refl

  pub level_merge : {xs ys levels : List Level} {carry : List Node} {made : ℕ} → IsLevelMerge make at_start at_end xs carry ys levels made → (a b : List Node) (wx wy : ℕ) →
      IsCanonicalBy make at_start false a xs wx → IsCanonicalBy make false at_end b ys wy → IsCanonicalBy make at_start at_end (a ++ (carry ++ b)) levels (made + (wx + wy))
  level_merge {levels = levels} {carry = carry} {made = made} (all_in_sight canonical) a b wx wy (whole none) (whole none') =
      subst (IsCanonicalBy make at_start at_end (a ++ (carry ++ b)) levels) (omega arith) canonical
  level_merge (all_in_sight canonical) a b wx wy (collapsed split cutting above_x) hy = absurd (let some = levels_some make at_start false above_x in omega arith)
  level_merge (all_in_sight canonical) a b wx wy (whole none) (collapsed split cutting above_y) = absurd (let some = levels_some make false at_end above_y in omega arith)
  level_merge {carry = carry} (appended unmarked none) a b wx wy (whole none_a) (whole none_b) =
      whole (subst (λ (e : Bool). NoSplit at_start e (a ++ (carry ++ b))) (sym unmarked) (none none_a))
  level_merge (appended unmarked none) a b wx wy (collapsed split cutting above_x) hy = absurd (let some = levels_some make at_start false above_x in omega arith)
  level_merge (appended unmarked none) a b wx wy (whole none_a) (collapsed split cutting above_y) = absurd (let some = levels_some make false at_end above_y in omega arith)
  level_merge {carry = carry} (prepended unmarked none) a b wx wy (whole none_a) (whole none_b) =
      whole (subst (λ (s : Bool). NoSplit s at_end (a ++ (carry ++ b))) (sym unmarked) (none none_b))
  level_merge (prepended unmarked none) a b wx wy (collapsed split cutting above_x) hy = absurd (let some = levels_some make at_start false above_x in omega arith)
  level_merge (prepended unmarked none) a b wx wy (whole none_a) (collapsed split cutting above_y) = absurd (let some = levels_some make false at_end above_y in omega arith)
  level_merge (step {levels = levels} {carry = carry} {left = left} {middle = middle} {right = right} {groups = groups} {work = work} (both left_is seen right_is) cutting rest) a b wx wy (collapsed {left = xl} {middle = xm} {right = xr} {groups = gx} {work = px} split_x cutting_x above_x) (collapsed {left = yl} {middle = ym} {right = yr} {groups = gy} {work = py} split_y cutting_y above_y) =
      let merged = level_merge rest (map make gx) (map make gy) px py above_x above_y in
      level_merge_level (a ++ (carry ++ b)) left (xm ++ (middle ++ ym)) right (gx ++ (groups ++ gy)) levels (work + (px + py)) (length groups + work + (length gx + px + (length gy + py)))
      (both_split a b carry xl xm xr yl ym yr left middle right split_x split_y left_is seen right_is)
      (both_groups a b carry xl xm xr yl ym yr left middle right split_x split_y left_is seen right_is gx groups gy cutting_x cutting cutting_y)
      (subst (λ (l : List Node). IsCanonicalBy make at_start at_end l levels (work + (px + py))) (parents_of_three gx groups gy) merged)
      (omega (arith, length-append gx (groups ++ gy), length-append groups gy))
  level_merge (step {levels = levels} {carry = carry} {left = left} {middle = middle} {right = right} {groups = groups} {work = work} (left_alone left_is seen high) cutting rest) a b wx wy (collapsed {left = xl} {middle = xm} {right = xr} {groups = gx} {work = px} split_x cutting_x above_x) (whole none) =
      let merged = level_merge rest (map make gx) [] px 0 above_x (canonical_of_none false at_end) in
      level_merge_level (a ++ (carry ++ b)) left (xm ++ middle) right (gx ++ groups) levels (work + (px + 0)) (length groups + work + (length gx + px + 0))
      (left_split a b carry xl xm xr left middle right split_x left_is seen high)
      (Groups-after xm middle gx groups (inl split_x.high.stable.ends) cutting_x cutting)
      (subst (λ (l : List Node). IsCanonicalBy make at_start at_end l levels (work + (px + 0)))
      (ap (λ (l : List Node). map make gx ++ l) (append-nil (map make groups)) ∙ sym (map-append make gx groups)) merged)
      (omega (arith, length-append gx groups))
  level_merge (step (left_alone left_is seen high) cutting rest) a b wx wy (collapsed split_x cutting_x above_x) (collapsed split_y cutting_y above_y) =
      absurd (let some = levels_some make false at_end above_y in omega arith)
  level_merge (step {levels = levels} {carry = carry} {left = left} {middle = middle} {right = right} {groups = groups} {work = work} (right_alone seen low right_is) cutting rest) a b wx wy (whole none) (collapsed {left = yl} {middle = ym} {right = yr} {groups = gy} {work = py} split_y cutting_y above_y) =
      let merged = level_merge rest [] (map make gy) 0 py (canonical_of_none at_start false) above_y in
      level_merge_level (a ++ (carry ++ b)) left (middle ++ ym) right (groups ++ gy) levels (work + (0 + py)) (length groups + work + (0 + (length gy + py)))
      (right_split a b carry yl ym yr left middle right split_y seen low right_is)
      (right_groups a b carry yl ym yr left middle right split_y seen low right_is groups gy cutting cutting_y)
      (subst (λ (l : List Node). IsCanonicalBy make at_start at_end l levels (work + (0 + py))) (sym (map-append make groups gy)) merged)
      (omega (arith, length-append groups gy))
  level_merge (step (right_alone seen low right_is) cutting rest) a b wx wy (collapsed split_x cutting_x above_x) hy =
      absurd (let some = levels_some make at_start false above_x in omega arith)

-- ---- where the last stable point after a natural cut was searched for

pub high_after_found : (found : Option ℕ) (nodes : List Node) →
    IfSome found (λ p. (front : List Node) → IsFront true front → IsLastStable (front ++ take p nodes) (drop p nodes)) →
    IfNone found ((front : List Node) → IsFront true front → NoStable (front ++ nodes)) →
    IsHighAfter false (take (unwrap_or found 0) nodes) (drop (unwrap_or found 0) nodes)
high_after_found (Some p) nodes last none = inl (λ cut is_cut. last (cut ∷ []) (cut, refl, is_cut))
high_after_found None nodes last none = inr (refl, λ cut is_cut. none (cut ∷ []) (cut, refl, is_cut))

-- ---- what is collapsed, by whether there are levels above

module _ (at_start at_end : Bool) (seen left middle right : List Node) where
  pub both_above : (xs ys : List Level) → 1 < length xs → 1 < length ys → left ≡ left_at xs 0 → seen ≡ middle → right ≡ right_at ys 0 →
      IsMergeSplit at_start at_end xs ys seen left middle right
  both_above [] ys more_x more_y left_is middle_is right_is = absurd (omega arith)
  both_above (x ∷ []) ys more_x more_y left_is middle_is right_is = absurd (omega arith)
  both_above (x ∷ next_x ∷ xs) [] more_x more_y left_is middle_is right_is = absurd (omega arith)
  both_above (x ∷ next_x ∷ xs) (y ∷ []) more_x more_y left_is middle_is right_is = absurd (omega arith)
  both_above (x ∷ next_x ∷ xs) (y ∷ next_y ∷ ys) more_x more_y left_is middle_is right_is = both left_is middle_is right_is

  pub left_above : (xs ys : List Level) → 1 < length xs → 0 < length ys → ¬ (1 < length ys) → left ≡ left_at xs 0 → seen ≡ middle ++ right → IsHighAfter at_end middle right →
      IsMergeSplit at_start at_end xs ys seen left middle right
  left_above [] ys more some none left_is parts high = absurd (omega arith)
  left_above (x ∷ []) ys more some none left_is parts high = absurd (omega arith)
  left_above (x ∷ next_x ∷ xs) [] more some none left_is parts high = absurd (omega arith)
  left_above (x ∷ next_x ∷ xs) (y ∷ []) more some none left_is parts high = left_alone left_is parts high
  left_above (x ∷ next_x ∷ xs) (y ∷ next_y ∷ ys) more some none left_is parts high = absurd (none (omega arith))

  pub right_above : (x : Level) (ys : List Level) → 1 < length ys → seen ≡ left ++ middle → IsLowBefore at_start left middle → right ≡ right_at ys 0 →
      IsMergeSplit at_start at_end (x ∷ []) ys seen left middle right
  right_above x [] more parts low right_is = absurd (omega arith)
  right_above x (y ∷ []) more parts low right_is = absurd (omega arith)
  right_above x (y ∷ next_y ∷ ys) more parts low right_is = right_alone parts low right_is
