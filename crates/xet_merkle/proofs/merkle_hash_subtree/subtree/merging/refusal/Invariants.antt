use Rattle.std.proofs.Common.{take}
use Rattle.xet_merkle.specs.Steps.SubtreeMerging.{ArePassed}
use Rattle.xet_merkle.proofs.merkle_hash_subtree.subtree.merging.refusal.Given as goal

abbrev pub invariant-passing : goal.invariant-passing
invariant-passing g l = ArePassed l.passed (take l.range-index l.ranges)
