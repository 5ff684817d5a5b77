use Rattle.std.proofs.Common.{◌≡◌, ◌+◌, ◌<◌, ◌^◌, take}
use Rattle.xet_roots.specs.Roots.{total_size}
use Rattle.upload_session.proofs.session.add_sizes.Given as goal

abbrev pub invariant-loop-size : goal.invariant-loop-size
invariant-loop-size l = (l.sum ≡ l.fn.size + total_size (take l.size-index l.chunks)) × (l.sum < 2 ^ 64)
