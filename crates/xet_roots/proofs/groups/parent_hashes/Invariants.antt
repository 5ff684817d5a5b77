use Rattle.std.proofs.Common.{◌≡◌, ℕ, ◌<◌, [], get_or, length}
use Rattle.xet_roots.specs.Steps.Places.{IsSettled}
use Rattle.xet_roots.proofs.Lists.Lent.{lent}
use Rattle.xet_roots.proofs.groups.parent_hashes.Given as goal

abbrev pub invariant-lens : goal.invariant-lens
invariant-lens l = record {
  sizes : (j : ℕ) → j < 16 → length (get_or l.slots j []) ≡ 1024;
  size : length l.places ≡ 16;
  room : l.count < 16;
  places : (k : ℕ) → k < l.count → get_or l.places k 0 < length l.groups;
  settled : (len k : ℕ) → len < l.len → k < get_or l.counts len 0
      → IsSettled (lent l.groups) l.hashes l.places l.count (get_or (get_or l.lists len []) k 0);
}

abbrev pub invariant-listed : goal.invariant-listed
invariant-listed l = record {
  sizes : (j : ℕ) → j < 16 → length (get_or l.slots j []) ≡ 1024;
  size : length l.places ≡ 16;
  room : l.count < 16;
  places : (k : ℕ) → k < l.count → get_or l.places k 0 < length l.groups;
  settled : (len k : ℕ) → len < l.len → k < get_or l.counts len 0
      → IsSettled (lent l.groups) l.hashes l.places l.count (get_or (get_or l.lists len []) k 0);
  here : (k : ℕ) → k < l.i → IsSettled (lent l.groups) l.hashes l.places l.count (get_or (get_or l.lists l.len []) k 0);
}
