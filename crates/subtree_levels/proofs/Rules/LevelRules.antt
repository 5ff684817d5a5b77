-- The rules of levels, as the code checks them, are those of well-formed levels.
use Rattle.std.proofs.Common.{◌≡◌, ℕ, zero, suc, ◌+◌, ◌<◌, ◌↔◌, Bool, true, false, Option, Some, None, IfSome, IfNone, is_some, not, List, [], ◌∷◌, ◌++◌, length, take, drop, get_or, refl, sym, ap, subst, arith}
use Rattle.std.proofs.lemmas.Bool.{false≢true}
use Rattle.std.proofs.lemmas.List.{take-append-drop}
use Rattle.std.specs.List.{AllByRecursion as Each}
use Rattle.xet_roots.specs.Groups.{Node}
use Rattle.stable_points.specs.StablePoints.{EndsStable, BeginsStable, NoStable, IsFirstStable, IsLastStable}
use Rattle.stable_points.specs.Steps.StableScan.{IsFront}
use Rattle.subtree_levels.specs.Levels.{Level}
use Rattle.subtree_levels.specs.WellFormed.{IsLeftSide, IsRightSide, Rule8, Rule9, Rule10, Rule11, Rule12, IsWellFormed}
use Rattle.subtree_levels.specs.LevelRules.{KeepsBelow, BreaksLevelRule}
use Rattle.subtree_levels.specs.LevelRules.BreaksLevelRule.{at_8, at_9, at_10, at_11, at_12, at_13}

-- ---- the two sides

pub left_side_found : (nodes : List Node) (found : Option ℕ) → IfSome found (λ p. IsFirstStable (take p nodes) (drop p nodes)) → IfNone found (NoStable nodes) →
    EndsStable nodes → (b : Bool) → is_some found ≡ not b → (b ≡ true) ↔ IsLeftSide nodes
left_side_found nodes None first none ends true e = (λ _. (ends, none), λ _. refl)
left_side_found nodes None first none ends false e = absurd (false≢true e)
left_side_found nodes (Some p) first none ends true e = absurd (false≢true (sym e))
left_side_found nodes (Some p) first none ends false e = (
  λ clash. absurd (false≢true clash),
  λ side. absurd (side.1 (take p nodes) (drop p nodes) (sym (take-append-drop p nodes)) first.stable),
)

pub right_side_found : (nodes : List Node) (found : Option ℕ) →
    IfSome found (λ p. (front : List Node) → IsFront true front → IsLastStable (front ++ take p nodes) (drop p nodes)) →
    IfNone found ((front : List Node) → IsFront true front → NoStable (front ++ nodes)) → BeginsStable nodes → (b : Bool) → is_some found ≡ not b → (b ≡ true) ↔ IsRightSide nodes
right_side_found nodes None last none begins true e = (λ _. (begins, λ cut is_cut. none (cut ∷ []) (cut, refl, is_cut)), λ _. refl)
right_side_found nodes None last none begins false e = absurd (false≢true e)
right_side_found nodes (Some p) last none begins true e = absurd (false≢true (sym e))
right_side_found nodes (Some p) last none begins false e = (
  λ clash. absurd (false≢true clash),
  λ side.
      let cut = begins.first in
      let place = last (cut ∷ []) (cut, refl, begins.first_cut) in
      absurd (side.1 cut begins.first_cut (cut ∷ take p nodes) (drop p nodes) (ap (λ (l : List Node). cut ∷ l) (sym (take-append-drop p nodes))) place.stable),
)

-- ---- levels

-- a walk through levels that stops at one, and one that ends
pub each_stops : (Keeps : Level → Type 0) (levels : List Level) (i : ℕ) (d : Level) → i < length levels → (Keeps (get_or levels i d) → ⊥) → Each Keeps levels → ⊥
each_stops Keeps [] i d within broken = absurd (omega arith)
each_stops Keeps (level ∷ levels) zero d within broken = λ all. broken all.0
each_stops Keeps (level ∷ levels) (suc i) d within broken = λ all. each_stops Keeps levels i d (omega arith) broken all.1

each_after : (Keeps : Level → Type 0) (levels : List Level) (i : ℕ) (d : Level) → i < length levels → Each Keeps (take i levels) → Keeps (get_or levels i d) →
    Each Keeps (take (suc i) levels)
each_after Keeps [] i d within so_far here = absurd (omega arith)
each_after Keeps (level ∷ levels) zero d within so_far here = (here, tt)
each_after Keeps (level ∷ levels) (suc i) d within so_far here = (so_far.0, each_after Keeps levels i d (omega arith) so_far.1 here)

pub each_next : (Keeps : Level → Type 0) (levels : List Level) (i : ℕ) (d : Level) → i < length levels → Each Keeps (take i levels) → Keeps (get_or levels i d) →
    Each Keeps (take (i + 1) levels)
each_next Keeps levels i d within so_far here =
    subst (λ (n : ℕ). Each Keeps (take n levels)) (let same : suc i ≡ i + 1 = omega arith in same) (each_after Keeps levels i d within so_far here)

-- ---- the rules together

module _ (at_start at_end : Bool) (levels : List Level) where
  pub below_9 : Rule8 at_end levels → KeepsBelow at_start at_end levels 9
  below_9 rule_8 = record {
    rule_8 = λ _. rule_8;
    rule_9 = λ less. absurd (omega arith);
    rule_10 = λ less. absurd (omega arith);
    rule_11 = λ less. absurd (omega arith);
    rule_12 = λ less. absurd (omega arith);
  }

  pub below_10 : Rule8 at_end levels → Rule9 at_start levels → KeepsBelow at_start at_end levels 10
  below_10 rule_8 rule_9 = record {
    rule_8 = λ _. rule_8;
    rule_9 = λ _. rule_9;
    rule_10 = λ less. absurd (omega arith);
    rule_11 = λ less. absurd (omega arith);
    rule_12 = λ less. absurd (omega arith);
  }

  pub below_11 : Rule8 at_end levels → Rule9 at_start levels → Rule10 at_start at_end levels → KeepsBelow at_start at_end levels 11
  below_11 rule_8 rule_9 rule_10 = record {
    rule_8 = λ _. rule_8;
    rule_9 = λ _. rule_9;
    rule_10 = λ _. rule_10;
    rule_11 = λ less. absurd (omega arith);
    rule_12 = λ less. absurd (omega arith);
  }

  pub below_12 : Rule8 at_end levels → Rule9 at_start levels → Rule10 at_start at_end levels → Rule11 levels → KeepsBelow at_start at_end levels 12
  below_12 rule_8 rule_9 rule_10 rule_11 = record {
    rule_8 = λ _. rule_8;
    rule_9 = λ _. rule_9;
    rule_10 = λ _. rule_10;
    rule_11 = λ _. rule_11;
    rule_12 = λ less. absurd (omega arith);
  }

  pub below_13 : Rule8 at_end levels → Rule9 at_start levels → Rule10 at_start at_end levels → Rule11 levels → Rule12 at_start levels → KeepsBelow at_start at_end levels 13
  below_13 rule_8 rule_9 rule_10 rule_11 rule_12 = record {
    rule_8 = λ _. rule_8;
    rule_9 = λ _. rule_9;
    rule_10 = λ _. rule_10;
    rule_11 = λ _. rule_11;
    rule_12 = λ _. rule_12;
  }

  -- a well formed subtree breaks none of them
  pub levels_kept : (rule : ℕ) → IsWellFormed (record { at_start = at_start; at_end = at_end; levels = levels }) → BreaksLevelRule at_start at_end levels rule → ⊥
  levels_kept rule h (at_8 broken) = broken h.rule_8
  levels_kept rule h (at_9 _ broken) = broken h.rule_9
  levels_kept rule h (at_10 _ broken) = broken h.rule_10
  levels_kept rule h (at_11 _ broken) = broken h.rule_11
  levels_kept rule h (at_12 _ broken) = broken h.rule_12
  levels_kept rule h (at_13 _ broken) = broken h.rule_13
