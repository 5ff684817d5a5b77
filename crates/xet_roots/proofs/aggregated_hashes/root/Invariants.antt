use Rattle.std.proofs.Common.{ℕ, List, ◌<◌, ◌^◌, length}
use Rattle.xet_roots.specs.Roots.{total_size, IsRoot}
use Rattle.xet_roots.proofs.aggregated_hashes.root.Given as goal

abbrev pub invariant-levels : goal.invariant-levels
invariant-levels g l = record {
  some : 0 < length l.nodes.items;
  fits : total_size l.nodes.items < 2 ^ 64;
  same_root : (hash : List ℕ) → IsRoot l.nodes.items hash → IsRoot l.fn.nodes.items hash;
}

abbrev pub decreases-levels : goal.decreases-levels
decreases-levels g l = length l.nodes.items
