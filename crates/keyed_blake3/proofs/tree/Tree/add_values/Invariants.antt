use Rattle.std.proofs.Common.{◌≡◌, ◌+◌, ◌*◌, ◌^◌, ◌<◌, ◌≤◌, ℕ, List, length}
use Rattle.keyed_blake3.specs.Steps.Lanes.{lane}
use Rattle.keyed_blake3.specs.Steps.Tree.{IsWaiting, subtree_at}
use Rattle.keyed_blake3.proofs.tree.Tree.add_values.Given as goal

abbrev pub invariant-values : goal.invariant-values
invariant-values g l = record {
  key : l.self.key ≡ l.fn.self.key;
  chaining_value : l.self.chaining_value ≡ l.fn.self.chaining_value;
  waits : (k c : ℕ) (m : List ℕ) → c ≡ 2 ^ k * l.number → IsWaiting l.fn.self.key l.fn.self.cv_stack c m → c + 2 ^ k * l.count < 2 ^ 54
      → 1024 * (c + 2 ^ k * l.count) ≤ length m → ((j : ℕ) → j < l.count → lane j l.values ≡ subtree_at l.fn.self.key k (c + 2 ^ k * j) m)
      → IsWaiting l.fn.self.key l.self.cv_stack (c + 2 ^ k * l.j) m;
}
