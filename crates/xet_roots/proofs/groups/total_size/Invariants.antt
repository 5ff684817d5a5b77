use Rattle.std.proofs.Common.{◌≡◌, ◌<◌, ◌^◌, take}
use Rattle.xet_roots.specs.Roots.{total_size}
use Rattle.xet_roots.proofs.groups.total_size.Given as goal

abbrev pub invariant-loop-size : goal.invariant-loop-size
invariant-loop-size l = (l.total ≡ total_size (take l.size-index l.nodes)) × (l.total < 2 ^ 64)
