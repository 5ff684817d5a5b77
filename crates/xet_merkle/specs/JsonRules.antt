-- The subtree that a JSON value describes, and the lowest of the rules 1 to 13 that it breaks.
use Rattle.std.specs.Prelude.{◌≡◌, ℕ, ◌^◌, ◌<◌, ◌≤◌, Bool, List, [], length}
use Rattle.serde_json.specs.Data.{Data}
use Rattle.xet_roots.specs.Groups.{Node}
use Rattle.xet_roots.specs.Roots.{total_size}
use Rattle.level_nodes.specs.FlatLevels.{count_sum, IsFlat}
use Rattle.subtree_levels.specs.Levels.{Level}
use Rattle.subtree_levels.specs.Subtree.{Subtree}
use Rattle.xet_merkle.specs.JsonParts.{ReadsParts, BreaksPartRule}
use Rattle.subtree_levels.specs.LevelRules.{BreaksLevelRule}

-- the lowest of the rules 5 to 13 that marks, counts and nodes break: there is a level; the counts add up to the number
-- of nodes; the sizes fit 64 bits; and the rules of the levels
pub data BreaksValueRule (at_start at_end : Bool) (counts : List (ℕ × ℕ)) (nodes : List Node) : ℕ → Type 0 where
  no_level : length counts ≡ 0 → BreaksValueRule at_start at_end counts nodes 5
  wrong_counts : 0 < length counts → ¬ (count_sum counts ≡ length nodes) → BreaksValueRule at_start at_end counts nodes 6
  sizes_pass : 0 < length counts → count_sum counts ≡ length nodes → 2 ^ 64 ≤ total_size nodes → BreaksValueRule at_start at_end counts nodes 7
  of_levels : {rule : ℕ} {levels : List Level} → 0 < length counts → IsFlat counts nodes levels [] → total_size nodes < 2 ^ 64 →
      BreaksLevelRule at_start at_end levels rule → BreaksValueRule at_start at_end counts nodes rule

-- the lowest rule that a value breaks: a rule of its parts, or a rule of the parts together
pub data BreaksRule (json : Data) : ℕ → Type 0 where
  of_parts : {rule : ℕ} → BreaksPartRule json rule → BreaksRule json rule
  of_value : {rule : ℕ} {at_start at_end : Bool} {counts : List (ℕ × ℕ)} {nodes : List Node} → ReadsParts json at_start at_end counts nodes →
      BreaksValueRule at_start at_end counts nodes rule → BreaksRule json rule

-- a value describes a subtree: its marks, counts and nodes are those of the subtree, and it breaks no rule
pub record Reads (json : Data) (subtree : Subtree) : Type 0 where
  pub counts : List (ℕ × ℕ)
  pub nodes : List Node
  pub parts : ReadsParts json subtree.at_start subtree.at_end counts nodes
  pub flat : IsFlat counts nodes subtree.levels []
  pub kept : (rule : ℕ) → ¬ (BreaksRule json rule)
