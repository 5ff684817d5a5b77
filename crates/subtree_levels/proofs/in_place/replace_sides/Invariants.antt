use Rattle.std.proofs.Common.{◌≡◌, ◌≤◌, length, map}
use Rattle.subtree_levels.proofs.OfLevels.InPlace.{put}
use Rattle.subtree_levels.proofs.in_place.replace_sides.Given as goal

abbrev pub invariant-sides : goal.invariant-sides
invariant-sides g l = record {
  within : length l.sides.items ≤ length l.levels.items;
  put_is : put l.kept (map (λ side. side.items) l.sides.items) l.levels.items ≡ put l.fn.kept (map (λ side. side.items) l.fn.sides.items) l.fn.levels.items;
}

abbrev pub decreases-sides : goal.decreases-sides
decreases-sides g l = length l.sides.items
