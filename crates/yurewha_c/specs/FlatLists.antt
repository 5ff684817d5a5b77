-- The counts of levels as C passes them.
use Rattle.std.specs.Prelude.{ℕ, List, map}
use Rattle.yurewha_c.specs.declared.subtree_flat.Level.{Level}

-- the numbers of left and right nodes of each level
abbrev pub counts_of : List Level → List (ℕ × ℕ)
counts_of levels = map (λ level. (level.left, level.right)) levels
