use Rattle.std.proofs.Common.{◌≡◌, ℕ, ◌+◌, ◌*◌, ◌^◌, ◌<◌, ◌≤◌, List, length, take}
use Rattle.std.specs.Int.RustNames.{count_ones}
use Rattle.keyed_blake3.specs.Steps.Tree.{IsMerging, IsWaiting, subtree_at}
use Rattle.keyed_blake3.proofs.tree.add_subtree_value.Given as goal

abbrev pub invariant-joins : goal.invariant-joins
invariant-joins l = record {
  used : l.used ≡ count_ones l.rest;
  below : l.rest ≤ l.number;
  some : 0 < l.number → 0 < l.kept → 0 < l.rest;
  merging : (k c : ℕ) (m : List ℕ) → c ≡ 2 ^ k * l.number → IsWaiting l.key l.cv_stack c m → l.fn.value ≡ subtree_at l.key k c m
      → c + 2 ^ k < 2 ^ 54 → 1024 * (c + 2 ^ k) ≤ length m → IsMerging l.key (c + 2 ^ k) m (take l.used l.cv_stack) l.value l.rest;
}

abbrev pub decreases-joins : goal.decreases-joins
decreases-joins l = l.rest
