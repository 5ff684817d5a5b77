-- The rules of well-formed levels, stated level by level as sides.
use Rattle.std.proofs.Common.{◌≡◌, ◌<◌, Bool, true, false, List, [], ◌∷◌, length, refl, subst, arith}
use Rattle.std.specs.List.{AllByRecursion as Each}
use Rattle.subtree_levels.specs.Levels.{Level, below_top, top_of}
use Rattle.subtree_levels.specs.WellFormed.{Rule8, Rule9, Rule10, Rule11, Rule12, Rule13, IsWellFormed}
use Rattle.subtree_levels.specs.Steps.LevelMerging.{IsLeftUnder, IsRightUnder, HaveSides}

-- ---- from rules to sides

left_rules : (at_start : Bool) (levels : List Level) → Rule9 at_start levels → Rule12 at_start levels → Each (λ level. IsLeftUnder at_start level.left) (below_top levels)
left_rules true levels rule_9 rule_12 = rule_9 refl
left_rules false levels rule_9 rule_12 = rule_12 refl

right_rules : (at_end : Bool) (levels : List Level) → Rule8 at_end levels → Rule13 at_end levels → Each (λ level. IsRightUnder at_end level.right) (below_top levels)
right_rules true levels rule_8 rule_13 = rule_8.1 refl
right_rules false levels rule_8 rule_13 = rule_13 refl

sides_from_rules : (at_start at_end : Bool) (levels : List Level) → 0 < length levels → (top_of levels).right ≡ [] →
    Each (λ level. IsLeftUnder at_start level.left) (below_top levels) → Each (λ level. IsRightUnder at_end level.right) (below_top levels) → HaveSides at_start at_end levels
sides_from_rules at_start at_end [] some none left right = absurd (omega arith)
sides_from_rules at_start at_end (top ∷ []) some none left right = none
sides_from_rules at_start at_end (level ∷ next ∷ levels) some none left right =
    (left.0, right.0, sides_from_rules at_start at_end (next ∷ levels) (omega arith) none left.1 right.1)

pub well_formed_sides : (at_start at_end : Bool) (levels : List Level) → IsWellFormed (record { at_start = at_start; at_end = at_end; levels = levels }) → HaveSides at_start at_end levels
well_formed_sides at_start at_end levels h =
    sides_from_rules at_start at_end levels h.some_level h.rule_8.0 (left_rules at_start levels h.rule_9 h.rule_12) (right_rules at_end levels h.rule_8 h.rule_13)

-- ---- from sides to rules

pub HaveSides-some : (at_start at_end : Bool) (levels : List Level) → HaveSides at_start at_end levels → 0 < length levels
HaveSides-some at_start at_end [] h = elim h [ ]
HaveSides-some at_start at_end (level ∷ levels) h = omega arith

top_side : (at_start at_end : Bool) (levels : List Level) → HaveSides at_start at_end levels → (top_of levels).right ≡ []
top_side at_start at_end [] h = elim h [ ]
top_side at_start at_end (top ∷ []) h = h
top_side at_start at_end (level ∷ next ∷ levels) h = top_side at_start at_end (next ∷ levels) h.2

left_sides : (at_start at_end : Bool) (levels : List Level) → HaveSides at_start at_end levels → Each (λ level. IsLeftUnder at_start level.left) (below_top levels)
left_sides at_start at_end [] h = elim h [ ]
left_sides at_start at_end (top ∷ []) h = tt
left_sides at_start at_end (level ∷ next ∷ levels) h = (h.0, left_sides at_start at_end (next ∷ levels) h.2)

right_sides : (at_start at_end : Bool) (levels : List Level) → HaveSides at_start at_end levels → Each (λ level. IsRightUnder at_end level.right) (below_top levels)
right_sides at_start at_end [] h = elim h [ ]
right_sides at_start at_end (top ∷ []) h = tt
right_sides at_start at_end (level ∷ next ∷ levels) h = (h.1, right_sides at_start at_end (next ∷ levels) h.2)

pub well_formed_from_sides : (at_start at_end : Bool) (levels : List Level) → HaveSides at_start at_end levels → Rule10 at_start at_end levels → Rule11 levels →
    IsWellFormed (record { at_start = at_start; at_end = at_end; levels = levels })
well_formed_from_sides at_start at_end levels h rule_10 rule_11 =
    let left = left_sides at_start at_end levels h in
    let right = right_sides at_start at_end levels h in record {
      some_level = HaveSides-some at_start at_end levels h;
      rule_8 = (top_side at_start at_end levels h, λ end. subst (λ (e : Bool). Each (λ level. IsRightUnder e level.right) (below_top levels)) end right);
      rule_9 = λ start. subst (λ (s : Bool). Each (λ level. IsLeftUnder s level.left) (below_top levels)) start left;
      rule_10 = rule_10;
      rule_11 = rule_11;
      rule_12 = λ start. subst (λ (s : Bool). Each (λ level. IsLeftUnder s level.left) (below_top levels)) start left;
      rule_13 = λ end. subst (λ (e : Bool). Each (λ level. IsRightUnder e level.right) (below_top levels)) end right;
    }
