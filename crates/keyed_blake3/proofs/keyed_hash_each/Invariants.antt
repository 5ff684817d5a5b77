use Rattle.std.proofs.Common.{◌≡◌, ℕ, ◌-◌, ◌<◌, ◌≤◌, [], get_or, length, map, replicate}
use Rattle.keyed_blake3.specs.Blake3.{keyed_hash}
use Rattle.keyed_blake3.proofs.keyed_hash_each.Given as goal

abbrev pub invariant-messages : goal.invariant-messages
invariant-messages g l = record {
  within : l.done ≤ length l.messages;
  hashes : (i : ℕ) → i < l.done → get_or l.hashes i [] ≡ keyed_hash l.key (get_or (map (λ m. m.now) l.messages) i []);
  past : (i : ℕ) → l.done ≤ i → i < g.row.N → get_or l.hashes i [] ≡ replicate 32 0;
}

abbrev pub decreases-messages : goal.decreases-messages
decreases-messages g l = length l.messages - l.done
