use Rattle.std.proofs.Common.{◌≡◌, ℕ, ◌<◌, [], get_or, length}
use Rattle.xet_roots.specs.Roots.{parent_by}
use Rattle.xet_roots.proofs.Lists.Lent.{lent}
use Rattle.xet_roots.proofs.aggregated_hashes.first_parents.Given as goal

abbrev pub invariant-parents : goal.invariant-parents
invariant-parents g l = record {
  size : length l.parents ≡ 64;
  each : (i : ℕ) → i < l.j → get_or l.parents i ([], 0) ≡ parent_by g.P.ParentMaker.hash_of (get_or (lent l.groups) i []);
}
