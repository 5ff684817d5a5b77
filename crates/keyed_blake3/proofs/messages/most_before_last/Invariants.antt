use Rattle.std.proofs.Common.{ℕ, ◌<◌, ◌≤◌, [], get_or, map}
use Rattle.keyed_blake3.specs.Blake3.{blocks_before_last}
use Rattle.keyed_blake3.proofs.messages.most_before_last.Given as goal

abbrev pub invariant-messages : goal.invariant-messages
invariant-messages l = record {
  few : l.most < 16;
  most : (i : ℕ) → i < l.j → blocks_before_last (get_or (map (λ m. m.now) l.messages) i []) ≤ l.most;
}
