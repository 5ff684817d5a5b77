use Rattle.std.proofs.Common.{◌≡◌, ◌<◌, ◌^◌, ◌+◌, take}
use Rattle.std.specs.Prelude.{sum_by}
use Rattle.xet_roots.specs.Roots.{total_size}
use Rattle.range_proof.proofs.proof_parts.size_beside.Given as goal

abbrev pub invariant-sizes : goal.invariant-sizes
invariant-sizes g l =
    (l.size ≡ sum_by (λ sides. total_size sides.left + total_size sides.right) (take l.level-index l.levels)) × (l.size < 2 ^ 64)
