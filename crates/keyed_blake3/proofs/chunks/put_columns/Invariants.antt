use Rattle.std.proofs.Common.{◌≡◌, ◌+◌, ◌<◌, [], length, get_or, ℕ}
use Rattle.keyed_blake3.proofs.chunks.put_columns.Given as goal

abbrev pub invariant-columns : goal.invariant-columns
invariant-columns g l = record {
  size : length l.words ≡ 16;
  before : (i : ℕ) → i < l.at → get_or l.words i [] ≡ get_or l.initial.words i [];
  columns : (i : ℕ) → i < l.k → get_or l.words (l.at + i) [] ≡ get_or l.columns i [];
}
