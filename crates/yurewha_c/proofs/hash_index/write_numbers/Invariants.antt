use Rattle.std.proofs.Common.{◌≡◌, length, take}
use Rattle.yurewha_c.specs.HashNumbers.{AreNumbersOf}
use Rattle.yurewha_c.proofs.hash_index.write_numbers.Given as goal

abbrev pub invariant-hashes : goal.invariant-hashes
invariant-hashes l = record {
  written : AreNumbersOf l.kept (take l.i l.hashes) (take l.i l.found) (take l.i l.numbers);
  found : length l.found ≡ length l.initial.found;
  numbers : length l.numbers ≡ length l.initial.numbers;
}
