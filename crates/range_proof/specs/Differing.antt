-- What two lists of chunks have in common at the front and at the end.
use Rattle.std.specs.Prelude.{◌≡◌, ℕ, ◌-◌, ◌<◌, ◌≤◌, List, length, take, drop}
use Rattle.xet_roots.specs.Groups.{Node}

-- how many nodes two lists have in common at the front: this many are the same, and no more are
pub record IsCommonPrefix (first second : List Node) (count : ℕ) : Type 0 where
  pub within_first : count ≤ length first
  pub within_second : count ≤ length second
  pub same : take count first ≡ take count second
  pub longest : (more : ℕ) → count < more → more ≤ length first → more ≤ length second → ¬ (take more first ≡ take more second)

-- the last nodes of a list, this many of them
abbrev pub take_last : ℕ → List Node → List Node
take_last count nodes = drop (length nodes - count) nodes

-- how many nodes two lists have in common at the end, but at most `most`: this many are the same, and no more are
pub record IsCommonSuffix (first second : List Node) (most count : ℕ) : Type 0 where
  pub at_most : count ≤ most
  pub within_first : count ≤ length first
  pub within_second : count ≤ length second
  pub same : take_last count first ≡ take_last count second
  pub longest : (more : ℕ) → count < more → more ≤ most → more ≤ length first → more ≤ length second
      → ¬ (take_last more first ≡ take_last more second)
