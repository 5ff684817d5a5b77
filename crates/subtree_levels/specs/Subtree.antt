-- A subtree in contracts: its marks, and what it keeps of each level, from the chunks up, as in the module
-- `merklehash::merkle_hash_subtree` of the crate `xet-core-structures`.
use Rattle.std.specs.Prelude.{ℕ, Bool, ◌&&◌, List}
use mathlib.Core.Bool.{beq}
use Rattle.std.specs.Cmp.Lexicographic.{pointwise}
use Rattle.xet_roots.specs.Groups.{Node}
use Rattle.xet_roots.specs.Roots.{parent}
use Rattle.level_nodes.specs.Level.{Level, same_level}
use Rattle.subtree_levels.specs.Canonical.{IsCanonicalBy}

pub record Subtree : Type 0 where
  pub at_start : Bool
  pub at_end : Bool
  pub levels : List Level

-- a subtree is the canonical subtree of a list under the subtree's marks
abbrev pub IsCanonical : Subtree → List Node → Type 0
IsCanonical subtree nodes = (work : ℕ) × IsCanonicalBy parent subtree.at_start subtree.at_end nodes subtree.levels work

-- whether two subtrees are equal
abbrev pub same_subtree : Subtree → Subtree → Bool
same_subtree a b = beq a.at_start b.at_start && (beq a.at_end b.at_end && pointwise same_level a.levels b.levels)
