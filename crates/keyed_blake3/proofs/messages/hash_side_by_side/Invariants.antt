use Rattle.std.proofs.Common.{◌≡◌, ℕ, ◌+◌, ◌<◌, ◌≤◌, [], get_or, length, map}
use Rattle.keyed_blake3.specs.Blake3.{keyed_hash}
use Rattle.keyed_blake3.proofs.messages.hash_side_by_side.Given as goal

abbrev pub invariant-hashes : goal.invariant-hashes
invariant-hashes g l = record {
  size : length l.hashes ≡ g.row.N;
  before : (i : ℕ) → i < l.at → get_or l.hashes i [] ≡ get_or l.fn.hashes i [];
  after : (i : ℕ) → l.at + l.j ≤ i → get_or l.hashes i [] ≡ get_or l.fn.hashes i [];
  hashes : (i : ℕ) → i < l.j → get_or l.hashes (l.at + i) [] ≡ keyed_hash l.key (get_or (map (λ m. m.now) l.messages) i []);
}
