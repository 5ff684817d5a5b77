use Rattle.std.proofs.Common.{◌≡◌, ℕ, ◌+◌, ◌<◌, ◌-◌, Bool, List, [], ◌++◌, length, map, take, drop, sym, ap, subst, ◌∙◌, arith, rules}
use Rattle.std.proofs.lemmas.List.{length-map}
use Rattle.xet_roots.specs.Groups.{Node}
use Rattle.xet_roots.specs.Roots.{parent_by}
use Rattle.subtree_levels.specs.Levels.{Level}
use Rattle.subtree_levels.specs.Steps.LevelMerging.{Sight, sight_up, IsSightMerge, sight_of, levels_of, lowest_with, OnlyExtends, extended}
use Rattle.subtree_levels.specs.Steps.Building.{MergeBelow, CanMerge}
use Rattle.subtree_levels.specs.declared.levels.Operand.{Operand}
use Rattle.subtree_levels.proofs.OfLevels.InPlace.{put}
use Rattle.subtree_levels.proofs.Merging.InPlace.{merge_in_place, levels_of-sight, sight_up-none, sight_of-up, extended_rest, within_changed}
use Rattle.subtree_levels.proofs.merge_levels.merge_levels.Goals as goal
use Rattle.subtree_levels.proofs.merge_levels.merge_levels.Goals.{then-extends+in_ok-extend, else-extends+in_ok-tops+in_ok-replace_top}

module _ (kept : Operand) (at_start at_end : Bool) (levels other seen : List Level) (seen_is : seen ≡ levels) (sight : Sight) where
  -- what is in sight of all levels
  whole_is : (none : List Node) → sight ≡ sight_up 0 (sight_of kept at_start at_end seen [] other) none → none ≡ [] → (made : ℕ) →
      CanMerge made (sight_of kept at_start at_end levels [] other) → sight ≡ sight_of kept at_start at_end levels [] other
  whole_is none is none_is made can =
      is ∙ ap (λ (l : List Level). sight_up 0 (sight_of kept at_start at_end l [] other) none) seen_is
      ∙ ap (λ (carry : List Node). sight_up 0 (sight_of kept at_start at_end levels [] other) carry) none_is
      ∙ sight_up-none (sight_of kept at_start at_end levels [] other) can.some_front can.some_back

  -- and of those from one up
  rest_is : (carry : List Node) (rest rest_other : List Level) (at n : ℕ) → sight ≡ sight_up 0 (sight_of kept at_start at_end rest [] rest_other) carry →
      rest ≡ drop at seen → rest_other ≡ drop at other → at ≡ n → sight ≡ sight_up n (sight_of kept at_start at_end levels [] other) carry
  rest_is carry rest rest_other at n is above above_other at_is =
      is ∙ ap (λ (l : List Level). sight_up 0 (sight_of kept at_start at_end l [] rest_other) carry) (above ∙ ap (λ (l : List Level). drop at l) seen_is ∙ ap (λ (m : ℕ). drop m levels) at_is)
      ∙ ap (λ (l : List Level). sight_up 0 (sight_of kept at_start at_end (drop n levels) [] l) carry) (above_other ∙ ap (λ (m : ℕ). drop m other) at_is)
      ∙ sight_of-up kept at_start at_end n levels other carry

  length_is : sight ≡ sight_of kept at_start at_end levels [] other → length (levels_of kept sight) ≡ length levels
  length_is is = ap (λ (s : Sight). length (levels_of kept s)) is ∙ ap length (levels_of-sight kept at_start at_end levels other)

pub merge_lower-requires-clause-can_merge : goal.merge_lower-requires-clause-can_merge
merge_lower-requires-clause-can_merge g c =
    let whole = sight_of c.args.kept c.args.marks.at_start c.args.marks.at_end c.args.levels.now.items [] c.args.other.now in
    let is : c.new-sight.result ≡ whole = whole_is c.args.kept c.args.marks.at_start c.args.marks.at_end c.args.levels.now.items c.args.other.now _ c.deref.ensures.value _ _ c.new-sight.ensures c.new-none.ensures.items 0 c.requires.can_merge in
    subst (λ (s : Sight). CanMerge (g.P.ParentMaker.count c.args.maker.now) s) (sym is) (subst (λ (n : ℕ). CanMerge n whole) (sym c.requires.none_made) c.requires.can_merge)

pub extend-requires : goal.extend-requires
extend-requires g c =
    let is = whole_is c.args.kept c.args.marks.at_start c.args.marks.at_end c.args.levels.now.items c.args.other.now _ c.deref.ensures.value _ _ c.new-sight.ensures c.new-none.ensures.items 0 c.requires.can_merge in
    let len = length_is c.args.kept c.args.marks.at_start c.args.marks.at_end c.args.levels.now.items c.args.other.now _ c.deref.ensures.value _ is in
    let at : c.len-at.result ≡ length c.in_ok-sides.field-0.sides.items = search rules in
    let within = c.in_ok-sides.ensures.merges.within in
    omega (arith, length-map c.in_ok-sides.field-0.sides.items (λ side. side.items))

pub merge_top-requires : goal.merge_top-requires
merge_top-requires g c =
    let made = g.P.ParentMaker.count c.merge_lower.new.maker in
    let carry = c.in_ok-sides.field-0.carry.items in
    let n = length c.in_ok-sides.field-0.sides.items in
    let whole = sight_of c.args.kept c.args.marks.at_start c.args.marks.at_end c.args.levels.now.items [] c.args.other.now in
    let is = whole_is c.args.kept c.args.marks.at_start c.args.marks.at_end c.args.levels.now.items c.args.other.now _ c.deref.ensures.value _ _ c.new-sight.ensures c.new-none.ensures.items 0 c.requires.can_merge in
    let at : c.len-at.result ≡ n = search rules in
    let rest : c.new-sight-else-extends.result ≡ sight_up n whole carry =
    rest_is c.args.kept c.args.marks.at_start c.args.marks.at_end c.args.levels.now.items c.args.other.now _ c.deref-else-extends.ensures.value _ carry _ _ _ n c.new-sight-else-extends.ensures
    c.levels_from.ensures c.levels_from-other.ensures at in
    subst (λ (s : Sight). CanMerge made s) (sym rest) (subst (λ (s : Sight). CanMerge made (sight_up n s carry)) is c.in_ok-sides.ensures.merges.can_merge)

pub replace_top-requires : goal.replace_top-requires
replace_top-requires g c =
    let is = whole_is c.args.kept c.args.marks.at_start c.args.marks.at_end c.args.levels.now.items c.args.other.now _ c.deref.ensures.value _ _ c.new-sight.ensures c.new-none.ensures.items 0 c.requires.can_merge in
    let len = length_is c.args.kept c.args.marks.at_start c.args.marks.at_end c.args.levels.now.items c.args.other.now _ c.deref.ensures.value _ is in
    let within = c.in_ok-sides.ensures.merges.within in
    omega (arith, length-map c.in_ok-sides.field-0.sides.items (λ side. side.items))

pub replace_sides-requires : goal.replace_sides-requires
replace_sides-requires g c =
    let levels = c.args.levels.now.items in
    let is = whole_is c.args.kept c.args.marks.at_start c.args.marks.at_end levels c.args.other.now _ c.deref.ensures.value _ _ c.new-sight.ensures c.new-none.ensures.items 0 c.requires.can_merge in
    let len = length_is c.args.kept c.args.marks.at_start c.args.marks.at_end levels c.args.other.now _ c.deref.ensures.value _ is in
    let at : c.len-at.result ≡ length c.in_ok-sides.field-0.sides.items = search rules in
    let few = c.in_ok-sides.ensures.merges.within in
    let within : length c.in_ok-sides.field-0.sides.items < length levels = omega (arith, length-map c.in_ok-sides.field-0.sides.items (λ side. side.items)) in
    elim c.if-extends.branch [
      | then-extends+in_ok-extend w ↦
          let changed = ap length (ap (λ vec. vec.items) w.levels-is ∙ w.in_ok-extend.ensures.extended) in
          let enough = within_changed c.len-at.result levels (extended c.args.kept (drop c.len-at.result levels) c.in_ok-sides.field-0.carry.items c.levels_from-other.result.now) (omega arith) in
          omega arith
      | else-extends+in_ok-tops+in_ok-replace_top w ↦
          let changed = ap length (ap (λ vec. vec.items) w.levels-is ∙ w.in_ok-replace_top.ensures.replaced) in
          let enough = within_changed (length levels - 1) levels w.in_ok-tops.tops.items (omega arith) in
          omega arith
    ]

pub returns-clause-merged : goal.returns-clause-merged
returns-clause-merged g c =
    let make = parent_by g.P.ParentMaker.hash_of in
    let kept = c.args.kept in
    let at_start = c.args.marks.at_start in
    let at_end = c.args.marks.at_end in
    let levels : List Level = c.args.levels.now.items in
    let other = c.args.other.now in
    let whole = sight_of kept at_start at_end levels [] other in
    let sides = c.in_ok-sides.field-0.sides.items in
    let carry = c.in_ok-sides.field-0.carry.items in
    let done = g.P.ParentMaker.count c.merge_lower.new.maker in
    let lists : List (List Node) = map (λ side. side.items) sides in
    let n = length lists in
    let len_lists : n ≡ length sides = length-map sides (λ side. side.items) in
    let is : c.new-sight.result ≡ whole = whole_is kept at_start at_end levels other _ c.deref.ensures.value _ _ c.new-sight.ensures c.new-none.ensures.items 0 c.requires.can_merge in
    let kept_is : levels_of kept whole ≡ levels = levels_of-sight kept at_start at_end levels other in
    let len_kept = ap length kept_is in
    let len = length_is kept at_start at_end levels other _ c.deref.ensures.value _ is in
    let within : n < length levels = let few = c.in_ok-sides.ensures.merges.within in omega arith in
    let below : MergeBelow make whole (lowest_with kept lists (levels_of kept whole)) done (sight_up n whole carry) =
    subst (λ (m : ℕ). MergeBelow make whole (lowest_with kept lists (levels_of kept whole)) done (sight_up m whole carry)) (sym len_lists)
    (subst (λ (s : Sight). MergeBelow make s (lowest_with kept lists (levels_of kept s)) done (sight_up (length sides) s carry)) is c.in_ok-sides.ensures.merges.below) in
    let count_is : c.len-at.result ≡ length sides = search rules in
    let at : c.len-at.result ≡ n = count_is ∙ sym len_lists in
    let changed : List Level = c.if-extends.levels.items in
    let final : c.replace_sides.new.levels.items ≡ put kept lists changed =
    subst (λ (m : ℕ). c.replace_sides.new.levels.items ≡ lowest_with kept lists changed ++ drop m changed) (sym len_lists) c.replace_sides.ensures in
    elim c.if-extends.branch [
      | then-extends+in_ok-extend w ↦
          let others = extended kept (drop n levels) carry (drop n other) in
          let told : OnlyExtends kept (sight_up n whole carry) =
          subst (λ (m : ℕ). OnlyExtends kept (sight_up m whole carry)) (sym len_lists)
          (subst (λ (s : Sight). OnlyExtends kept (sight_up (length sides) s carry)) is (c.in_ok-sides.ensures.extends w.if-extends.true)) in
          let merged = extended_rest make kept at_start at_end n levels other carry within c.requires.sides told in
          let changed_is : changed ≡ take n (levels_of kept whole) ++ others =
          ap (λ vec. vec.items) w.levels-is ∙ w.in_ok-extend.ensures.extended
          ∙ ap (λ (l : List Level). take c.len-at.result levels ++ extended kept (drop c.len-at.result levels) carry l) c.levels_from-other.ensures
          ∙ ap (λ (m : ℕ). take m levels ++ extended kept (drop m levels) carry (drop m other)) at ∙ ap (λ (l : List Level). take n l ++ others) (sym kept_is) in
          let none_more : done + 0 ≡ done = omega arith in
          rw (final, w.maker-is) (subst (IsSightMerge make whole (put kept lists changed)) none_more
          (merge_in_place make kept whole (sight_up n whole carry) lists others changed done 0 below (omega arith) changed_is merged))
      | else-extends+in_ok-tops+in_ok-replace_top w ↦
          let tops = w.in_ok-tops.tops.items in
          let one : length levels ≡ n + 1 = let told = c.in_ok-sides.ensures.top w.if-extends.false in omega arith in
          let rest : w.new-sight-else-extends.result ≡ sight_up n whole carry =
          rest_is kept at_start at_end levels other _ w.deref-else-extends.ensures.value _ carry _ _ _ n w.new-sight-else-extends.ensures w.levels_from.ensures c.levels_from-other.ensures at in
          let made = w.in_ok-tops.ensures in
          let merged = subst (λ (s : Sight). IsSightMerge make s tops made.0) rest made.1 in
          let below_top : length levels - 1 ≡ n = omega arith in
          let changed_is : changed ≡ take n (levels_of kept whole) ++ tops =
          ap (λ vec. vec.items) w.levels-is ∙ w.in_ok-replace_top.ensures.replaced ∙ ap (λ (m : ℕ). take m levels ++ tops) below_top ∙ ap (λ (l : List Level). take n l ++ tops) (sym kept_is) in
          rw (final, w.maker-is, made.2) (merge_in_place make kept whole (sight_up n whole carry) lists tops changed done made.0 below (omega arith) changed_is merged)
    ]
