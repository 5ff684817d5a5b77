use Rattle.std.proofs.Common.{◌≡◌, ◌+◌, ◌<◌, ◌^◌, take}
use Rattle.std.specs.Prelude.{sum_by}
use Rattle.yurewha_c.proofs.proof_check.count_sum.Given as goal

abbrev pub invariant-sum : goal.invariant-sum
invariant-sum l = (l.sum ≡ sum_by (λ level. level.left + level.right) (take l.level-index l.levels)) × (l.sum < 2 ^ 64)
