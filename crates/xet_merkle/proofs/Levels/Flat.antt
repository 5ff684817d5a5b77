-- The flat lists of a subtree's levels: how many nodes they have, and the sum of their sizes.
use Rattle.std.proofs.Common.{◌≡◌, List, [], ◌∷◌, ◌++◌, refl, ap, arith}
use Rattle.xet_roots.specs.Roots.{total_size}
use Rattle.xet_roots.proofs.Roots.Making.{total_size-append}
use Rattle.level_nodes.specs.FlatLevels.{flat_nodes}
use Rattle.level_nodes.proofs.FlatOf.{outside}
use Rattle.subtree_levels.specs.Levels.{Level, levels_size}

pub levels_size-flat : (levels : List Level) → total_size (flat_nodes levels []) ≡ levels_size levels
levels_size-flat [] = refl
levels_size-flat (level ∷ levels) =
    let inner = flat_nodes levels [] in
    let size = ap total_size (outside level levels []) in
    let rest = levels_size-flat levels in
    omega (arith, total_size-append level.left (inner ++ level.right), total_size-append inner level.right)
