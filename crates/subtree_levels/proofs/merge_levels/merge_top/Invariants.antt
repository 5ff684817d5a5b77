use Rattle.std.proofs.Common.{◌≡◌, ℕ, ◌+◌, length}
use Rattle.xet_roots.specs.Roots.{parent_by}
use Rattle.subtree_levels.specs.Steps.Building.{MergeBelow, CanMerge}
use Rattle.subtree_levels.proofs.merge_levels.merge_top.Given as goal

abbrev pub invariant-levels : goal.invariant-levels
invariant-levels g l = record {
  done : ℕ;
  merges : MergeBelow (parent_by g.P.ParentMaker.hash_of) l.fn.sight l.levels.items done l.sight;
  count : g.P.ParentMaker.count l.maker ≡ g.P.ParentMaker.count l.fn.maker + done;
  can_merge : CanMerge (g.P.ParentMaker.count l.maker) l.sight;
}

abbrev pub decreases-levels : goal.decreases-levels
decreases-levels g l = length l.sight.front + length l.sight.back
