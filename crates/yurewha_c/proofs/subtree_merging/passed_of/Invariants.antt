use Rattle.std.proofs.Common.{◌≡◌, List, map, take}
use Rattle.std.specs.Prelude.{Some}
use Rattle.xet_merkle.specs.Steps.SubtreeMerging.{ArePassed}
use Rattle.xet_merkle.specs.Subtree.{Subtree}
use Rattle.yurewha_c.specs.Handles.{values_of}
use Rattle.yurewha_c.proofs.subtree_merging.passed_of.Given as goal

abbrev pub invariant-passing : goal.invariant-passing
invariant-passing l = record {
  passed : (front : List Subtree) × (map (λ s. Some s) front ≡ take l.range-index (values_of l.initial.ranges)) × ArePassed l.passed front;
  kept : values_of l.ranges ≡ values_of l.initial.ranges;
}
