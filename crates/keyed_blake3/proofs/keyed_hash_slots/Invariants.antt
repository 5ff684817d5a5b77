use Rattle.std.proofs.Common.{◌≡◌, ℕ, ◌-◌, ◌<◌, ◌≤◌, [], get_or, length}
use Rattle.keyed_blake3.specs.Blake3.{keyed_hash}
use Rattle.keyed_blake3.specs.Steps.Messages.{AreFilled, AreSlots, message_in}
use Rattle.keyed_blake3.proofs.keyed_hash_slots.Given as goal

abbrev pub invariant-messages : goal.invariant-messages
invariant-messages l = record {
  within : l.done ≤ length l.lens;
  slots : AreSlots 16 l.slots l.lens;
  filled : AreFilled l.slots l.lens;
  hashes : (i : ℕ) → i < l.done → get_or l.hashes i [] ≡ keyed_hash l.key (message_in l.slots l.lens i);
}

abbrev pub decreases-messages : goal.decreases-messages
decreases-messages l = length l.lens - l.done
