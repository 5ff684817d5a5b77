use Rattle.std.proofs.Common.{◌≡◌, ◌^◌, ◌<◌, List}
use Rattle.xet_merkle.specs.Merging.{NoMarkBetweenSubtrees, ranges_size}
use Rattle.xet_merkle.specs.Subtree.{Subtree}
use Rattle.yurewha_c.specs.Handles.{AllHold, values_of}
use Rattle.yurewha_c.proofs.HandleMerging.{IsMergedUpTo}
use Rattle.yurewha_c.proofs.subtree_merging.merge_held.Given as goal

abbrev pub invariant-merging : goal.invariant-merging
invariant-merging l = record {
  merged : (held : List Subtree) × AllHold l.initial.ranges held × NoMarkBetweenSubtrees held × (ranges_size held < 2 ^ 64) × IsMergedUpTo held l.range-index l.merged;
  kept : values_of l.ranges ≡ values_of l.initial.ranges;
}
