-- The lowest of the rules 8 to 13 that marks and levels break.
use Rattle.std.specs.Prelude.{ℕ, ◌<◌, Bool, List}
use Rattle.subtree_levels.specs.Levels.{Level}
use Rattle.subtree_levels.specs.WellFormed.{Rule8, Rule9, Rule10, Rule11, Rule12, Rule13}

-- marks and levels keep each of these rules with a number below n
pub record KeepsBelow (at_start at_end : Bool) (levels : List Level) (n : ℕ) : Type 0 where
  pub rule_8 : 8 < n → Rule8 at_end levels
  pub rule_9 : 9 < n → Rule9 at_start levels
  pub rule_10 : 10 < n → Rule10 at_start at_end levels
  pub rule_11 : 11 < n → Rule11 levels
  pub rule_12 : 12 < n → Rule12 at_start levels

-- they break a rule and keep those with lower numbers
pub data BreaksLevelRule (at_start at_end : Bool) (levels : List Level) : ℕ → Type 0 where
  at_8 : ¬ (Rule8 at_end levels) → BreaksLevelRule at_start at_end levels 8
  at_9 : KeepsBelow at_start at_end levels 9 → ¬ (Rule9 at_start levels) → BreaksLevelRule at_start at_end levels 9
  at_10 : KeepsBelow at_start at_end levels 10 → ¬ (Rule10 at_start at_end levels) → BreaksLevelRule at_start at_end levels 10
  at_11 : KeepsBelow at_start at_end levels 11 → ¬ (Rule11 levels) → BreaksLevelRule at_start at_end levels 11
  at_12 : KeepsBelow at_start at_end levels 12 → ¬ (Rule12 at_start levels) → BreaksLevelRule at_start at_end levels 12
  at_13 : KeepsBelow at_start at_end levels 13 → ¬ (Rule13 at_end levels) → BreaksLevelRule at_start at_end levels 13
