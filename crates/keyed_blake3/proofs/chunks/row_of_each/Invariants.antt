use Rattle.std.proofs.Common.{◌≡◌, ℕ, ◌+◌, ◌*◌, ◌<◌, [], drop, get_or, length}
use Rattle.keyed_blake3.specs.Blake3.{words_at}
use Rattle.keyed_blake3.specs.Steps.Lanes.{AreFull}
use Rattle.keyed_blake3.proofs.chunks.row_of_each.Given as goal

abbrev pub invariant-rows : goal.invariant-rows
invariant-rows g l = record {
  size : length l.rows ≡ g.row.L;
  full : AreFull g.row.L l.rows;
  rows : (k : ℕ) → k < l.j → get_or l.rows k [] ≡ words_at g.row.L (drop (1024 * get_or l.places k 0 + l.at) l.chunks);
}
