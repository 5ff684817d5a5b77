use Rattle.std.proofs.Common.{◌≡◌, ℕ, ◌-◌, ◌*◌, ◌/◌, ◌<◌, ◌≤◌, get_or, length}
use Rattle.keyed_blake3.proofs.slots.last_blocks.Given as goal

abbrev pub invariant-lens : goal.invariant-lens
invariant-lens g l = record {
  last_size : length l.last ≡ g.row.L;
  rest_size : length l.rest ≡ g.row.L;
  few : l.most < 16;
  last : (i : ℕ) → i < l.j → get_or l.last i 0 ≡ (get_or l.lens i 0 - 1) / 64;
  rest : (i : ℕ) → i < l.j → get_or l.rest i 0 ≡ get_or l.lens i 0 - 64 * ((get_or l.lens i 0 - 1) / 64);
  most : (i : ℕ) → i < l.j → (get_or l.lens i 0 - 1) / 64 ≤ l.most;
}
