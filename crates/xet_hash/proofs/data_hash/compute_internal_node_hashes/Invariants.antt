use Rattle.std.proofs.Common.{◌≡◌, ℕ, ◌<◌, ◌≤◌, [], get_or, map}
use Rattle.keyed_blake3.specs.Blake3.{keyed_hash}
use Rattle.xet_hash.specs.Hash.{default_hash, hash_of, internal_key}
use Rattle.xet_hash.proofs.data_hash.compute_internal_node_hashes.Given as goal

abbrev pub invariant-hashes : goal.invariant-hashes
invariant-hashes g l = record {
  hashes : (i : ℕ) → i < l.j → get_or l.hashes i [] ≡ hash_of (keyed_hash internal_key (get_or (map (λ text. text.now) l.texts) i []));
  past : (i : ℕ) → l.j ≤ i → i < g.row.N → get_or l.hashes i [] ≡ default_hash;
}
