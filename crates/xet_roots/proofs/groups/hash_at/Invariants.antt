use Rattle.std.proofs.Common.{◌≡◌, ℕ, ◌<◌, ◌≤◌, [], get_or, length, take}
use Rattle.xet_roots.specs.Roots.{group_text, parent_hash}
use Rattle.xet_roots.proofs.Lists.Lent.{lent}
use Rattle.xet_roots.proofs.groups.hash_at.Given as goal

abbrev pub invariant-texts : goal.invariant-texts
invariant-texts l = record {
  slots_size : length l.slots ≡ 16;
  sizes : (i : ℕ) → i < 16 → length (get_or l.slots i []) ≡ 1024;
  lens_size : length l.lens ≡ 16;
  within : (i : ℕ) → i < l.k → get_or l.lens i 0 ≤ 792;
  text : (i : ℕ) → i < l.k → take (get_or l.lens i 0) (get_or l.slots i []) ≡ group_text (get_or (lent l.groups) (get_or l.places i 0) []);
}

abbrev pub invariant-hashes : goal.invariant-hashes
invariant-hashes l = record {
  size : length l.hashes ≡ 64;
  hashed : (i : ℕ) → i < l.k → get_or l.hashes (get_or l.places i 0) [] ≡ parent_hash (get_or (lent l.groups) (get_or l.places i 0) []);
  kept : (j : ℕ) → get_or l.fn.hashes j [] ≡ parent_hash (get_or (lent l.groups) j []) → get_or l.hashes j [] ≡ parent_hash (get_or (lent l.groups) j []);
}
