-- Reading levels: the nodes of the level of a number.
use Rattle.std.proofs.Common.{◌≡◌, ℕ, zero, suc, ◌<◌, ◌≤◌, List, [], ◌∷◌, length, get_or, refl, arith}
use Rattle.level_nodes.specs.Level.{Level, left_at, right_at}

pub left_at-some : (levels : List Level) (i : ℕ) (d : Level) → i < length levels → (get_or levels i d).left ≡ left_at levels i
left_at-some [] i d within = absurd (omega arith)
left_at-some (level ∷ levels) zero d within = refl
left_at-some (level ∷ levels) (suc i) d within = left_at-some levels i d (omega arith)

pub right_at-some : (levels : List Level) (i : ℕ) (d : Level) → i < length levels → (get_or levels i d).right ≡ right_at levels i
right_at-some [] i d within = absurd (omega arith)
right_at-some (level ∷ levels) zero d within = refl
right_at-some (level ∷ levels) (suc i) d within = right_at-some levels i d (omega arith)

pub left_at-none : (levels : List Level) (i : ℕ) → length levels ≤ i → left_at levels i ≡ []
left_at-none [] i beyond = refl
left_at-none (level ∷ levels) zero beyond = absurd (omega arith)
left_at-none (level ∷ levels) (suc i) beyond = left_at-none levels i (omega arith)

pub right_at-none : (levels : List Level) (i : ℕ) → length levels ≤ i → right_at levels i ≡ []
right_at-none [] i beyond = refl
right_at-none (level ∷ levels) zero beyond = absurd (omega arith)
right_at-none (level ∷ levels) (suc i) beyond = right_at-none levels i (omega arith)
