-- The sizes beside a range, level by level.
use Rattle.std.proofs.Common.{◌≡◌, ℕ, ◌+◌, ◌<◌, ◌≤◌, List, length, get_or, take, ap, arith}
use Rattle.std.specs.Prelude.{sum_by}
use Rattle.std.proofs.lemmas.List.Sums.{sum_by_more, sum_by-take-le}
use Rattle.xet_roots.specs.Roots.{total_size}
use Rattle.level_nodes.specs.Level.{Level}

abbrev pub left_size : Level → ℕ
left_size sides = total_size sides.left

abbrev pub both_sizes : Level → ℕ
both_sizes sides = total_size sides.left + total_size sides.right

pub record AreSizes (levels : List Level) (i before after : ℕ) : Type 0 where
  pub left : before ≡ sum_by left_size (take i levels)
  pub both : before + after ≡ sum_by both_sizes (take i levels)

-- one level more
pub AreSizes-more : (levels : List Level) (i : ℕ) (level : Level) (before after left right : ℕ) → i < length levels → level ≡ get_or levels i level →
    before ≡ sum_by left_size (take i levels) → before + after ≡ sum_by both_sizes (take i levels) →
    left ≡ total_size level.left → right ≡ total_size level.right → AreSizes levels (i + 1) (before + left) (after + right)
AreSizes-more levels i level before after left right within here before_is both_is left_is right_is =
    let more_left = sum_by_more left_size levels i level within in
    let more_both = sum_by_more both_sizes levels i level within in
    let here_left = ap left_size here in
    let here_both = ap both_sizes here in
    record { left = omega arith; both = omega arith }

-- the sizes up to a level and on it are at most those of all
pub level_fits : (levels : List Level) (i : ℕ) (level : Level) → i < length levels → level ≡ get_or levels i level →
    sum_by both_sizes (take i levels) + both_sizes level ≤ sum_by both_sizes levels
level_fits levels i level within here =
    let more = sum_by_more both_sizes levels i level within in
    let here_both = ap both_sizes here in
    let most = sum_by-take-le both_sizes levels (i + 1) in
    omega arith
