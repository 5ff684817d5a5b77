use Rattle.std.proofs.Common.{◌≡◌, ℕ, ◌<◌, [], get_or, take}
use Rattle.keyed_blake3.specs.Blake3.{keyed_hash}
use Rattle.xet_hash.specs.Hash.{hash_of, internal_key}
use Rattle.xet_hash.proofs.data_hash.compute_internal_node_hashes_in_slots.Given as goal

abbrev pub invariant-hashes : goal.invariant-hashes
invariant-hashes l = (i : ℕ) → i < l.k → get_or l.hashes i [] ≡ hash_of (keyed_hash internal_key (take (get_or l.lens i 0) (get_or l.fn.slots i [])))
