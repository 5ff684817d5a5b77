use Rattle.std.proofs.Common.{◌≡◌, ℕ, ◌+◌, ◌*◌, ◌^◌, ◌<◌, ◌≤◌, List, length}
use Rattle.keyed_blake3.specs.Steps.Lanes.{AreFull, lane}
use Rattle.keyed_blake3.specs.Steps.Tree.{subtree_at}
use Rattle.keyed_blake3.proofs.subtrees.join_in_pairs.Given as goal

abbrev pub invariant-levels : goal.invariant-levels
invariant-levels g l = record {
  some : 1 < l.count;
  count : l.count ≤ l.fn.count;
  number : l.number + l.count ≤ l.fn.number + l.fn.count;
  full : AreFull g.row.L l.values;
  lanes : (k c : ℕ) (m : List ℕ) → c ≡ 2 ^ k * l.fn.number → 1024 * (c + 2 ^ k * l.fn.count) ≤ length m
      → ((j : ℕ) → j < l.fn.count → lane j l.fn.values ≡ subtree_at l.key k (c + 2 ^ k * j) m)
      → (level : ℕ) × (c ≡ 2 ^ level * l.number) × (2 ^ k * l.fn.count ≡ 2 ^ level * l.count)
      × ((j : ℕ) → j < l.count → lane j l.values ≡ subtree_at l.key level (c + 2 ^ level * j) m);
}

abbrev pub decreases-levels : goal.decreases-levels
decreases-levels g l = l.count
