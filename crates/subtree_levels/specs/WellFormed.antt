-- The rules that every subtree keeps, whether it comes from a list of chunks or from elsewhere, so that it can be read
-- and merged. They are the rules 5 and 8 to 13 of its JSON form, as in the module `merklehash::merkle_hash_subtree` of
-- the crate `xet-core-structures`.
use Rattle.std.specs.Prelude.{◌≡◌, ◌<◌, ◌≤◌, Bool, true, false, List, [], ◌∷◌, length}
use Rattle.std.specs.List.{AllByRecursion as Each}
use Rattle.xet_roots.specs.Groups.{Node, Cut}
use Rattle.stable_points.specs.StablePoints.{EndsStable, BeginsStable, NoStable}
use Rattle.subtree_levels.specs.Levels.{Level, top_nodes, top_of, below_top}
use Rattle.subtree_levels.specs.Subtree.{Subtree}

-- what may stay on the left below the top if the start isn't marked: nodes that end like those before a first stable
-- point
abbrev pub IsLeftSide : List Node → Type 0
IsLeftSide left = EndsStable left × NoStable left

-- what may stay on the right below the top if the end isn't marked: nodes that begin like those after a last stable
-- point
abbrev pub IsRightSide : List Node → Type 0
IsRightSide right = BeginsStable right × ((cut : Node) → Cut cut → NoStable (cut ∷ right))

-- the top has no right nodes, and under an end mark no level has any
abbrev pub Rule8 : Bool → List Level → Type 0
Rule8 at_end levels = ((top_of levels).right ≡ []) × (at_end ≡ true → Each (λ level. level.right ≡ []) (below_top levels))

-- under a start mark no level below the top has left nodes
abbrev pub Rule9 : Bool → List Level → Type 0
Rule9 at_start levels = at_start ≡ true → Each (λ level. level.left ≡ []) (below_top levels)

-- under both marks the top has at most one node
abbrev pub Rule10 : Bool → Bool → List Level → Type 0
Rule10 at_start at_end levels = at_start ≡ true → at_end ≡ true → length (top_nodes levels) ≤ 1

-- if there are other levels, the top has a node
abbrev pub Rule11 : List Level → Type 0
Rule11 levels = 1 < length levels → 0 < length (top_nodes levels)

-- without a start mark each level below the top has a left side
abbrev pub Rule12 : Bool → List Level → Type 0
Rule12 at_start levels = at_start ≡ false → Each (λ level. IsLeftSide level.left) (below_top levels)

-- without an end mark each level below the top has a right side
abbrev pub Rule13 : Bool → List Level → Type 0
Rule13 at_end levels = at_end ≡ false → Each (λ level. IsRightSide level.right) (below_top levels)

-- a subtree keeps all of them; rule 5 is that there is a level
pub record IsWellFormed (subtree : Subtree) : Type 0 where
  pub some_level : 0 < length subtree.levels
  pub rule_8 : Rule8 subtree.at_end subtree.levels
  pub rule_9 : Rule9 subtree.at_start subtree.levels
  pub rule_10 : Rule10 subtree.at_start subtree.at_end subtree.levels
  pub rule_11 : Rule11 subtree.levels
  pub rule_12 : Rule12 subtree.at_start subtree.levels
  pub rule_13 : Rule13 subtree.at_end subtree.levels
