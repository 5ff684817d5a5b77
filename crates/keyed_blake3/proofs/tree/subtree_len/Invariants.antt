use Rattle.std.proofs.Common.{◌≡◌, ℕ, ◌+◌, ◌-◌, ◌%◌, ◌^◌, ◌<◌, ◌≤◌}
use Rattle.keyed_blake3.proofs.tree.subtree_len.Given as goal

abbrev pub invariant-doubled : goal.invariant-doubled
invariant-doubled g l = record {
  power : (k : ℕ) × (l.len ≡ 2 ^ k) × (0 < k → l.len ≤ l.most);
  first : l.first % l.len ≡ 0;
  some : 0 < l.len;
  room : l.len ≤ 1 + l.most;
}

abbrev pub decreases-doubled : goal.decreases-doubled
decreases-doubled g l = 1 + l.most - l.len
