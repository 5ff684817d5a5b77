-- Merging with the levels of one operand changed in place: below its top it keeps its outer side.
use Rattle.std.proofs.Common.{◌≡◌, ℕ, zero, suc, ◌+◌, ◌-◌, ◌*◌, ◌<◌, ◌≤◌, ◌^◌, Bool, false, List, [], ◌∷◌, ◌++◌, length, take, drop, refl, sym, ap, subst, ◌∙◌, arith, length-append}
use Rattle.std.proofs.lemmas.List.{length-drop, drop-drop}
use Rattle.xet_roots.specs.Groups.{Node}
use Rattle.xet_roots.specs.Roots.{parent_by}
use Rattle.subtree_levels.specs.Levels.{Level, left_at, right_at, node_count}
use Rattle.subtree_levels.specs.Subtree.{Subtree}
use Rattle.xet_roots.specs.Steps.Scan.{AreParents}
use Rattle.stable_points.specs.Steps.StableScan.{AddsNoStable, AddsNoStableBefore}
use Rattle.subtree_levels.specs.Steps.LevelMerging.{HaveSides, operand, inner_nodes, IsMergeSplit, IsLevelMerge, Sight, sight_up, IsSightSplit, IsSightMerge, front_of, back_of, sight_of, levels_of, inner_side, HaveSidesOf, with_side, lowest_with, OnlyExtends, extended}
use Rattle.subtree_levels.specs.Steps.LevelMerging.IsMergeSplit.{both, left_alone, right_alone}
use Rattle.subtree_levels.specs.Steps.Building.{MergeBelow, CanMerge, MergesLevel, MergesLower, AreMergeable, IsStored}
use Rattle.subtree_levels.specs.declared.levels.Operand.{Operand}
use Rattle.subtree_levels.specs.declared.levels.Operand.TheVariants.{Front, Back}
use Rattle.subtree_levels.proofs.OfLevels.Reading.{operand-some, operand-length, operand-left, operand-up, up-shorter}
use Rattle.subtree_levels.proofs.OfLevels.InPlace.{put, put-in_front, lowest_with-more, sides-above}
use Rattle.subtree_levels.proofs.Merging.LevelByLevel.{can_merge_above, merge_step, operands, merged_stored}
use Rattle.subtree_levels.proofs.Merging.Bounds.{merge_work}
use Rattle.subtree_levels.proofs.Merging.Appending.{level_merge_after}
use Rattle.subtree_levels.proofs.Merging.Prepending.{level_merge_before}

up_step : (n : ℕ) (levels : List Level) → operand (drop 1 (operand (drop n levels))) ≡ operand (drop (n + 1) levels)
up_step n levels = operand-up (drop n levels) ∙ ap operand (drop-drop 1 n levels)

pub sight_up-next : (n : ℕ) (whole sight : Sight) (carry : List Node) → sight ≡ sight_up n whole sight.carry → sight_up 1 sight carry ≡ sight_up (n + 1) whole carry
sight_up-next n whole sight carry is =
    ap (λ (s : Sight). sight_up 1 s carry) is ∙ (λ i. record {
      front = up_step n whole.front i;
      carry = carry;
      back = up_step n whole.back i;
      at_start = whole.at_start;
      at_end = whole.at_end;
    })

pub sight_up-none : (sight : Sight) → 0 < length sight.front → 0 < length sight.back → sight_up 0 sight sight.carry ≡ sight
sight_up-none sight some_front some_back = λ i. record {
  front = operand-some sight.front some_front i;
  carry = sight.carry;
  back = operand-some sight.back some_back i;
  at_start = sight.at_start;
  at_end = sight.at_end;
}

pub levels_of-up : (kept : Operand) (n : ℕ) (sight : Sight) (carry : List Node) → levels_of kept (sight_up n sight carry) ≡ operand (drop n (levels_of kept sight))
levels_of-up Front n sight carry = refl
levels_of-up Back n sight carry = refl

pub levels_of-rest : (kept : Operand) (n : ℕ) (whole sight : Sight) → sight ≡ sight_up n whole sight.carry → n < length (levels_of kept whole) →
    levels_of kept sight ≡ drop n (levels_of kept whole)
levels_of-rest kept n whole sight is within =
    ap (λ (s : Sight). levels_of kept s) is ∙ levels_of-up kept n whole sight.carry
    ∙ operand-some (drop n (levels_of kept whole)) (omega (arith, length-drop n (levels_of kept whole)))

-- an operand that has levels above keeps its outer side
kept_level : (kept : Operand) {at_start at_end : Bool} {xs ys : List Level} {nodes left middle right : List Node} → IsMergeSplit at_start at_end xs ys nodes left middle right →
    1 < length (front_of kept xs ys) →
    with_side kept (record { left = left_at (front_of kept xs ys) 0; right = right_at (front_of kept xs ys) 0 }) (inner_side kept left right) ≡ record { left = left; right = right }
kept_level Front {right = right} (both left_is seen right_is) more = λ i. record { left = sym left_is i; right = right }
kept_level Front {right = right} (left_alone left_is parts high) more = λ i. record { left = sym left_is i; right = right }
kept_level Front (right_alone parts low right_is) more = absurd (omega arith)
kept_level Back {left = left} (both left_is seen right_is) more = λ i. record { left = left; right = sym right_is i }
kept_level Back (left_alone left_is parts high) more = absurd (omega arith)
kept_level Back {left = left} (right_alone parts low right_is) more = λ i. record { left = left; right = sym right_is i }

pub lower_step : (make : List Node → Node) (kept : Operand) (whole sight : Sight) (sides : List (List Node)) (done : ℕ) → 0 < length sight.front → 0 < length sight.back →
    MergeBelow make whole (lowest_with kept sides (levels_of kept whole)) done sight → sight ≡ sight_up (length sides) whole sight.carry →
    length sides < length (levels_of kept whole) → 1 < length (levels_of kept sight) →
    {left middle right : List Node} (parents : List Node) → IsSightSplit sight left middle right → AreParents make middle parents →
    MergeBelow make whole (lowest_with kept (sides ++ inner_side kept left right ∷ []) (levels_of kept whole)) (done + length parents) (sight_up 1 sight parents)
lower_step make kept whole sight sides done some_front some_back below is within more {left} {middle} {right} parents split made =
    let levels = levels_of kept whole in
    let side = inner_side kept left right in
    let rest_is = levels_of-rest kept (length sides) whole sight is within in
    let here : lowest_with kept (sides ++ side ∷ []) levels ≡ lowest_with kept sides levels ++ record { left = left; right = right } ∷ [] =
    lowest_with-more kept sides side levels within
    ∙ ap (λ (xs : List Level). lowest_with kept sides levels ++ with_side kept (record { left = left_at xs 0; right = right_at xs 0 }) side ∷ []) (sym rest_is)
    ∙ ap (λ (level : Level). lowest_with kept sides levels ++ level ∷ []) (kept_level kept split more) in
    subst (λ (l : List Level). MergeBelow make whole l (done + length parents) (sight_up 1 sight parents)) (sym here)
    (merge_step make whole (lowest_with kept sides levels) done sight below some_front some_back parents split made)

some_kept : (kept : Operand) (made : ℕ) (sight : Sight) → CanMerge made sight → 0 < length (levels_of kept sight)
some_kept Front made sight can = can.some_front
some_kept Back made sight can = can.some_back

pub lower_none : (make : List Node → Node) (kept : Operand) (sight : Sight) (made : ℕ) → made ≡ 0 → CanMerge made sight → MergesLower make kept sight [] made sight
lower_none make kept sight made none can = record {
  within = some_kept kept made sight can;
  up = sym (sight_up-none sight can.some_front can.some_back);
  below = λ top work merged. subst (λ (n : ℕ). IsSightMerge make sight top n) (let n : work ≡ made + work = omega arith in n) merged;
  can_merge = can;
}

-- one level more
pub lower_next : (hash : List Node → List ℕ) (kept : Operand) (whole sight next : Sight) (sides more : List (List Node)) (made now : ℕ) →
    MergesLower (parent_by hash) kept whole sides made sight → 1 < length (levels_of kept sight) →
    MergesLevel (parent_by hash) kept sight sides next more → now ≡ made + length next.carry → MergesLower (parent_by hash) kept whole more now next
lower_next hash kept whole sight next sides more made now lower longer level count =
    let make = parent_by hash in
    let can = lower.can_merge in
    let parents = next.carry in
    let lists = sides ++ inner_side kept level.left level.right ∷ [] in
    let len : length lists ≡ length sides + 1 = omega (arith, length-append sides (inner_side kept level.left level.right ∷ [])) in
    let within = lower.within in
    let rest = ap length (levels_of-rest kept (length sides) whole sight lower.up within) in
    let there : MergesLower make kept whole lists (made + length parents) (sight_up 1 sight parents) = record {
      within = omega (arith, length-drop (length sides) (levels_of kept whole));
      up = sight_up-next (length sides) whole sight parents lower.up ∙ ap (λ (n : ℕ). sight_up n whole parents) (sym len);
      below = lower_step make kept whole sight sides made can.some_front can.some_back lower.below lower.up within longer parents level.split level.parents;
      can_merge = can_merge_above hash made sight can level.split parents level.parents;
    } in
    subst (λ (s : Sight). MergesLower make kept whole more now s) (sym level.above)
    (subst (λ (l : List (List Node)). MergesLower make kept whole l now (sight_up 1 sight parents)) (sym level.pushed)
    (subst (λ (n : ℕ). MergesLower make kept whole lists n (sight_up 1 sight parents)) (sym count) there))

-- what is in sight next is shorter
pub next-shorter : (make : List Node → Node) (kept : Operand) (sight next : Sight) (sides more : List (List Node)) → MergesLevel make kept sight sides next more →
    1 < length (levels_of kept sight) → length (levels_of kept next) < length (levels_of kept sight)
next-shorter make kept sight next sides more level longer =
    let above = ap (λ (s : Sight). length (levels_of kept s)) level.above ∙ ap length (levels_of-up kept 1 sight next.carry) in
    let shorter = up-shorter (levels_of kept sight) longer in
    omega arith

module _ (make : List Node → Node) (kept : Operand) (whole : Sight) (sides : List (List Node)) (made : ℕ) (sight : Sight) (lower : MergesLower make kept whole sides made sight)
    (n : ℕ) (len : length sides ≡ n) where
  -- what is in sight above the sides
  pub lower_rest : (carry : List Node) → carry ≡ sight.carry → sight ≡ sight_up n whole carry
  lower_rest carry carried = lower.up ∙ (λ i. sight_up (len i) whole (sym carried i))

  -- they are those of all levels but the top
  pub lower_top : ¬ (1 < length (levels_of kept sight)) → length (levels_of kept whole) ≡ n + 1
  lower_top one =
      let within = lower.within in
      let rest = ap length (levels_of-rest kept (length sides) whole sight lower.up within) in
      omega (arith, length-drop (length sides) (levels_of kept whole))

-- the lowest levels have other nodes on the inner side, and the others are the merge of what is in sight of them
pub merge_in_place : (make : List Node → Node) (kept : Operand) (whole rest : Sight) (sides : List (List Node)) (others changed : List Level) (done work : ℕ) →
    MergeBelow make whole (lowest_with kept sides (levels_of kept whole)) done rest → length sides ≤ length (levels_of kept whole) →
    changed ≡ take (length sides) (levels_of kept whole) ++ others → IsSightMerge make rest others work →
    IsSightMerge make whole (put kept sides changed) (done + work)
merge_in_place make kept whole rest sides others changed done work below within changed_is merged =
    subst (λ (l : List Level). IsSightMerge make whole l (done + work))
    (sym (ap (put kept sides) changed_is ∙ put-in_front kept sides (levels_of kept whole) others within)) (below others work merged)

-- the merge of what only extends an operand's levels
merge_extended : (make : List Node → Node) (kept : Operand) (at_start at_end : Bool) (levels other : List Level) (carry : List Node) →
    0 < length levels → HaveSidesOf kept at_start at_end levels →
    OnlyExtends kept (record { front = operand (front_of kept levels other); carry = carry; back = operand (back_of kept levels other); at_start = at_start; at_end = at_end }) →
    IsLevelMerge make at_start at_end (operand (front_of kept levels other)) carry (operand (back_of kept levels other)) (extended kept levels carry other) 0
merge_extended make Front at_start at_end levels other carry some sides told =
    let is = operand-some levels some in
    rw is (rw (operand-left other) (level_merge_after make at_start at_end levels carry (operand other) sides told.0 (operand-length other) told.1
    (subst (λ (xs : List Level). AddsNoStable (inner_nodes xs) (carry ++ left_at (operand other) 0)) is told.2)))
merge_extended make Back at_start at_end levels other carry some sides told =
    let is = operand-some levels some in
    rw is (level_merge_before make at_start at_end (operand other) carry levels sides told.0 (operand-length other) told.1
    (subst (λ (xs : List Level). AddsNoStableBefore (inner_nodes (operand other) ++ carry) (left_at xs 0)) is told.2))

-- ---- the operands in order

pub levels_of-sight : (kept : Operand) (at_start at_end : Bool) (levels other : List Level) → levels_of kept (sight_of kept at_start at_end levels [] other) ≡ levels
levels_of-sight Front at_start at_end levels other = refl
levels_of-sight Back at_start at_end levels other = refl

pub sight_of-up : (kept : Operand) (at_start at_end : Bool) (n : ℕ) (levels other : List Level) (carry : List Node) →
    sight_up 0 (sight_of kept at_start at_end (drop n levels) [] (drop n other)) carry ≡ sight_up n (sight_of kept at_start at_end levels [] other) carry
sight_of-up Front at_start at_end n levels other carry = refl
sight_of-up Back at_start at_end n levels other carry = refl

pub extended_rest : (make : List Node → Node) (kept : Operand) (at_start at_end : Bool) (n : ℕ) (levels other : List Level) (carry : List Node) →
    n < length levels → HaveSidesOf kept at_start at_end levels → OnlyExtends kept (sight_up n (sight_of kept at_start at_end levels [] other) carry) →
    IsSightMerge make (sight_up n (sight_of kept at_start at_end levels [] other) carry) (extended kept (drop n levels) carry (drop n other)) 0
extended_rest make Front at_start at_end n levels other carry within sides told =
    merge_extended make Front at_start at_end (drop n levels) (drop n other) carry (omega (arith, length-drop n levels)) (sides-above at_start false n levels within sides) told
extended_rest make Back at_start at_end n levels other carry within sides told =
    merge_extended make Back at_start at_end (drop n levels) (drop n other) carry (omega (arith, length-drop n levels)) (sides-above false at_end n levels within sides) told

pub within_changed : (n : ℕ) (levels others : List Level) → n ≤ length levels → n ≤ length (take n levels ++ others)
within_changed zero levels others within = omega arith
within_changed (suc n) [] others within = absurd (omega arith)
within_changed (suc n) (level ∷ levels) others within = let rest = within_changed n levels others (omega arith) in omega arith

-- ---- two subtrees, of which one is changed

pub kept_sides : (kept : Operand) (this other : Subtree) (at_start at_end : Bool) (size : ℕ) → AreMergeable (front_of kept this other) (back_of kept this other) at_start at_end size →
    HaveSidesOf kept at_start at_end this.levels
kept_sides Front this other at_start at_end size h =
    subst (λ (s : Bool). HaveSides s false this.levels) (sym h.start) (operands this other h.front_is h.back_is h.no_end h.no_start).sides_x
kept_sides Back this other at_start at_end size h =
    subst (λ (e : Bool). HaveSides false e this.levels) (sym h.end) (operands other this h.front_is h.back_is h.no_end h.no_start).sides_y

pub kept_can_merge : (kept : Operand) (this other : Subtree) (at_start at_end : Bool) (size : ℕ) → AreMergeable (front_of kept this other) (back_of kept this other) at_start at_end size →
    length this.levels < 2 ^ 64 → length other.levels < 2 ^ 64 → CanMerge 0 (sight_of kept at_start at_end this.levels [] other.levels)
kept_can_merge Front this other at_start at_end size h few_this few_other =
    let size_is = h.size_is in
    let small = h.fits in
    let few = h.few in
    record { some_front = h.front_is.some_level; some_back = h.back_is.some_level; fits = omega arith; room = omega arith }
kept_can_merge Back this other at_start at_end size h few_this few_other =
    let size_is = h.size_is in
    let small = h.fits in
    let few = h.few in
    record { some_front = h.front_is.some_level; some_back = h.back_is.some_level; fits = omega arith; room = omega arith }

kept_merge : (make : List Node → Node) (kept : Operand) (this other : Subtree) (at_start at_end : Bool) (levels : List Level) (work : ℕ) →
    at_start ≡ (front_of kept this other).at_start → at_end ≡ (back_of kept this other).at_end → IsSightMerge make (sight_of kept at_start at_end this.levels [] other.levels) levels work →
    IsLevelMerge make (front_of kept this other).at_start (back_of kept this other).at_end (front_of kept this other).levels [] (back_of kept this other).levels levels work
kept_merge make Front this other at_start at_end levels work start end merged =
    subst (λ (e : Bool). IsLevelMerge make this.at_start e this.levels [] other.levels levels work) end
    (subst (λ (s : Bool). IsLevelMerge make s at_end this.levels [] other.levels levels work) start merged)
kept_merge make Back this other at_start at_end levels work start end merged =
    subst (λ (e : Bool). IsLevelMerge make other.at_start e other.levels [] this.levels levels work) end
    (subst (λ (s : Bool). IsLevelMerge make s at_end other.levels [] this.levels levels work) start merged)

kept_nodes : (kept : Operand) (this other : Subtree) →
    node_count (front_of kept this other).levels + node_count (back_of kept this other).levels ≡ node_count this.levels + node_count other.levels
kept_nodes Front this other = refl
kept_nodes Back this other = omega arith

-- levels that those of both are merged to: what they store, and the bound of the work
module _ (hash : List Node → List ℕ) (kept : Operand) (this other : Subtree) (at_start at_end : Bool) (size : ℕ)
    (h : AreMergeable (front_of kept this other) (back_of kept this other) at_start at_end size) (xs ys levels : List Level) (work : ℕ) (xs_are : xs ≡ this.levels) (ys_are : ys ≡ other.levels)
    (merged : IsSightMerge (parent_by hash) (sight_of kept at_start at_end xs [] ys) levels work) where
  pub both_merged : IsLevelMerge (parent_by hash) (front_of kept this other).at_start (back_of kept this other).at_end (front_of kept this other).levels [] (back_of kept this other).levels levels work
  both_merged = kept_merge (parent_by hash) kept this other at_start at_end levels work h.start h.end
      (subst (λ (l : List Level). IsSightMerge (parent_by hash) (sight_of kept at_start at_end this.levels [] l) levels work) ys_are
      (subst (λ (l : List Level). IsSightMerge (parent_by hash) (sight_of kept at_start at_end l [] ys) levels work) xs_are merged))

  pub both_stored : IsStored at_start at_end levels size
  both_stored =
      let stored = merged_stored (front_of kept this other) (back_of kept this other) h.front_is h.back_is h.no_end h.no_start hash levels work both_merged size h.size_is h.fits h.few in
      subst (λ (s : Bool). IsStored s at_end levels size) (sym h.start) (subst (λ (e : Bool). IsStored (front_of kept this other).at_start e levels size) (sym h.end) stored)

  pub both_bound : 2 * work ≤ node_count this.levels + node_count other.levels + 2 * (length levels - 1)
  both_bound =
      let bound = merge_work (parent_by hash) (front_of kept this other).at_start (back_of kept this other).at_end both_merged in
      let nodes = kept_nodes kept this other in
      omega arith
