use Rattle.std.proofs.Common.{◌≡◌, ℕ, ◌<◌, ◌≤◌, [], get_or, length}
use Rattle.xet_roots.specs.Steps.Places.{IsListed}
use Rattle.xet_roots.proofs.Lists.Lent.{lent}
use Rattle.xet_roots.proofs.groups.by_len.Given as goal

abbrev pub invariant-groups : goal.invariant-groups
invariant-groups l = record {
  lists_size : length l.lists ≡ 10;
  sizes : (len : ℕ) → len < 10 → length (get_or l.lists len []) ≡ 64;
  counts_size : length l.counts ≡ 10;
  counts : (len : ℕ) → get_or l.counts len 0 ≤ l.j;
  within : (len k : ℕ) → k < get_or l.counts len 0 → get_or (get_or l.lists len []) k 0 < l.j;
  listed : (i : ℕ) → i < l.j → IsListed l.lists l.counts (length (get_or (lent l.groups) i [])) i;
}
