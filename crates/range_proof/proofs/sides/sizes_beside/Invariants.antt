use Rattle.std.proofs.Common.{◌≡◌, ◌+◌, take, sum_by}
use Rattle.xet_roots.specs.Roots.{total_size}
use Rattle.range_proof.proofs.sides.sizes_beside.Given as goal

abbrev pub invariant-levels : goal.invariant-levels
invariant-levels g l = record {
  before : l.before ≡ sum_by (λ sides. total_size sides.left) (take l.level-index l.levels);
  both : l.before + l.after ≡ sum_by (λ sides. total_size sides.left + total_size sides.right) (take l.level-index l.levels);
}
