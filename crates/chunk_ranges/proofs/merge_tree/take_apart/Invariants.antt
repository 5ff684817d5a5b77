use Rattle.std.proofs.Common.{◌≡◌, List, ◌++◌}
use Rattle.std.specs.Prelude.{IfSome}
use Rattle.chunk_ranges.specs.MergeTree.{leaves}
use Rattle.chunk_ranges.specs.Steps.Adjacent.{IsPassed}
use Rattle.chunk_ranges.specs.Steps.Bracketing.{entries, entries_after, lefts}
use Rattle.chunk_ranges.proofs.merge_tree.take_apart.Given as goal

abbrev pub invariant-leaves : goal.invariant-leaves
invariant-leaves g l = record {
  seen : List g.row.R.Denot;
  parts : leaves l.fn.tree ≡ seen ++ leaves l.tree;
  passed : IsPassed g.R.ChunkRange.start g.R.ChunkRange.end g.R.ChunkRange.total l.passed seen;
  order : IfSome l.order (λ order. order.entries.items ++ entries_after order.begun order.links l.tree ≡ entries 0 l.fn.tree);
}

abbrev pub decreases-leaves : goal.decreases-leaves
decreases-leaves g l = lefts l.tree
