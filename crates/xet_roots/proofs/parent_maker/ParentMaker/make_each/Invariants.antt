use Rattle.std.proofs.Common.{◌≡◌, ℕ, ◌+◌, ◌<◌, [], get_or, length}
use Rattle.xet_roots.proofs.Lists.Lent.{lent}
use Rattle.xet_roots.proofs.parent_maker.ParentMaker.make_each.Given as goal

abbrev pub invariant-hashes : goal.invariant-hashes
invariant-hashes g l = record {
  size : length l.hashes ≡ 64;
  each : (i : ℕ) → i < l.j → get_or l.hashes i [] ≡ g.Self.ParentMaker.hash_of (get_or (lent l.groups) i []);
  count : g.Self.ParentMaker.count l.self ≡ g.Self.ParentMaker.count l.fn.self + l.j;
}
