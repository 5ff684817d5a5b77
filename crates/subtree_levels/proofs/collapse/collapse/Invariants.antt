use Rattle.std.proofs.Common.{◌≡◌, ℕ, ◌+◌, ◌++◌, ◌<◌, ◌≤◌, ◌^◌, List, length}
use Rattle.xet_roots.specs.Roots.{total_size, parent_by}
use Rattle.subtree_levels.specs.Levels.{Level}
use Rattle.xet_roots.specs.Steps.Room.{most_made}
use Rattle.subtree_levels.specs.Steps.Building.{StandBelow}
use Rattle.subtree_levels.proofs.collapse.collapse.Given as goal

abbrev pub invariant-collapsing : goal.invariant-collapsing
invariant-collapsing g l = record {
  below : List Level;
  done : ℕ;
  added : l.levels.items ≡ l.fn.levels.items ++ below;
  count : g.P.ParentMaker.count l.maker ≡ g.P.ParentMaker.count l.fn.maker + done;
  stand : StandBelow (parent_by g.P.ParentMaker.hash_of) l.marks.at_start l.marks.at_end l.fn.nodes.items below done l.nodes.items;
  fits : total_size l.nodes.items < 2 ^ 64;
  room : g.P.ParentMaker.count l.maker + length l.nodes.items ≤ most_made;
}

abbrev pub decreases-collapsing : goal.decreases-collapsing
decreases-collapsing g l = length l.nodes.items
