use Rattle.std.proofs.Common.{◌≡◌, ℕ, ◌+◌, ◌<◌, [], get_or, length}
use Rattle.keyed_blake3.specs.Blake3.{keyed_hash}
use Rattle.keyed_blake3.specs.Steps.Messages.{message_in}
use Rattle.keyed_blake3.proofs.slots.hash_lanes.Given as goal

abbrev pub invariant-hashes : goal.invariant-hashes
invariant-hashes g l = record {
  size : length l.hashes ≡ g.row.N;
  before : (i : ℕ) → i < l.done → get_or l.hashes i [] ≡ get_or l.fn.hashes i [];
  hashes : (i : ℕ) → i < l.j → get_or l.hashes (l.done + i) [] ≡ keyed_hash l.key (message_in l.slots l.lens (l.done + i));
}
