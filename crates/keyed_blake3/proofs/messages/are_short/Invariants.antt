use Rattle.std.proofs.Common.{ℕ, ◌<◌, ◌≤◌, [], get_or, length, map}
use Rattle.keyed_blake3.proofs.messages.are_short.Given as goal

abbrev pub invariant-messages : goal.invariant-messages
invariant-messages l = (i : ℕ) → i < l.j → length (get_or (map (λ m. m.now) l.messages) i []) ≤ 1024
