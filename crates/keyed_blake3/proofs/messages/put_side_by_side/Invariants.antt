use Rattle.std.proofs.Common.{◌≡◌, ℕ, ◌-◌, ◌*◌, ◌<◌, ◌≤◌, [], get_or, length, map, replicate}
use Rattle.keyed_blake3.specs.Blake3.{block, blocks_before_last}
use Rattle.keyed_blake3.proofs.messages.put_side_by_side.Given as goal

abbrev pub invariant-messages : goal.invariant-messages
invariant-messages g l = record {
  chunks_size : length l.chunks ≡ g.row.L;
  last_size : length l.last ≡ g.row.L;
  rest_size : length l.rest ≡ g.row.L;
  sizes : (i : ℕ) → i < g.row.L → length (get_or l.chunks i []) ≡ 1024;
  zeros : (i : ℕ) → l.j ≤ i → i < g.row.L → get_or l.chunks i [] ≡ replicate 1024 0;
  padded : (i : ℕ) → i < l.j → (n : ℕ) → n ≤ blocks_before_last (get_or (map (λ m. m.now) l.messages) i [])
      → block (get_or l.chunks i []) n ≡ block (get_or (map (λ m. m.now) l.messages) i []) n;
  last : (i : ℕ) → i < l.j → get_or l.last i 0 ≡ blocks_before_last (get_or (map (λ m. m.now) l.messages) i []);
  rest : (i : ℕ) → i < l.j → get_or l.rest i 0
      ≡ length (get_or (map (λ m. m.now) l.messages) i []) - 64 * blocks_before_last (get_or (map (λ m. m.now) l.messages) i []);
}
