use Rattle.std.proofs.Common.{length}
use Rattle.range_proof.proofs.TreeOf.{IsGrown}
use Rattle.range_proof.proofs.tree_level.make_levels.Given as goal

abbrev pub invariant-levels : goal.invariant-levels
invariant-levels g l = IsGrown l.fn.chunks.items l.levels.items l.nodes.items

abbrev pub decreases-levels : goal.decreases-levels
decreases-levels g l = length l.nodes.items
