use Rattle.std.proofs.Common.{◌≡◌, length, take}
use Rattle.yurewha_c.specs.HashNumbers.{pairs_of}
use Rattle.yurewha_c.proofs.hash_index.write_entries.Given as goal

abbrev pub invariant-pairs : goal.invariant-pairs
invariant-pairs l = record {
  written : pairs_of (take l.i l.hashes) (take l.i l.numbers) ≡ take l.i l.entries;
  hashes : length l.hashes ≡ length l.initial.hashes;
  numbers : length l.numbers ≡ length l.initial.numbers;
}
