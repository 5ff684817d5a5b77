use Rattle.std.proofs.Common.{length, map, IsTrue}
use Rattle.xet_roots.specs.Roots.{parent_by}
use Rattle.subtree_levels.specs.Steps.LevelMerging.{levels_of, OnlyExtends}
use Rattle.subtree_levels.specs.Steps.Building.{MergesLower}
use Rattle.subtree_levels.proofs.merge_levels.merge_lower.Given as goal

abbrev pub invariant-levels : goal.invariant-levels
invariant-levels g l = record {
  lower : MergesLower (parent_by g.P.ParentMaker.hash_of) l.kept l.fn.sight (map (λ side. side.items) l.sides.items) (g.P.ParentMaker.count l.maker) l.sight;
  extends : IsTrue l.extends → OnlyExtends l.kept l.sight;
}

abbrev pub decreases-levels : goal.decreases-levels
decreases-levels g l = length (levels_of l.kept l.sight)
