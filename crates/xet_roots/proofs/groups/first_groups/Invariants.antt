use Rattle.std.proofs.Common.{◌≡◌, ℕ, ◌*◌, ◌<◌, ◌≤◌, [], drop, get_or, length, take}
use Rattle.xet_roots.specs.Groups.{IsGroup}
use Rattle.xet_roots.specs.Roots.{total_size}
use Rattle.xet_roots.specs.Steps.Scan.{AreFirstGroups, StayFirstGroups}
use Rattle.xet_roots.proofs.Lists.Lent.{lent}
use Rattle.xet_roots.proofs.groups.first_groups.Given as goal

abbrev pub invariant-groups : goal.invariant-groups
invariant-groups l = record {
  within : (l.count ≤ 64) × (l.count ≤ l.read) × (l.read ≤ length l.nodes);
  near : l.read ≤ 9 * l.count;
  none : l.count ≡ 0 → l.read ≡ 0;
  rest : l.rest ≡ drop l.read l.nodes;
  room : length l.groups ≡ 64;
  first : AreFirstGroups l.nodes (take l.count (lent l.groups)) l.rest;
  stay : 576 ≤ length l.nodes → StayFirstGroups l.nodes (take l.count (lent l.groups)) l.rest;
  groups : (j : ℕ) → j < l.count → IsGroup (get_or (lent l.groups) j []);
  sizes : (j : ℕ) → j < l.count → total_size (get_or (lent l.groups) j []) ≤ total_size l.nodes;
}

abbrev pub decreases-groups : goal.decreases-groups
decreases-groups l = length l.rest
