use Rattle.std.proofs.Common.{◌≡◌, length, take}
use Rattle.yurewha_c.specs.Pieces.{hashes_between, words_of}
use Rattle.yurewha_c.proofs.data_hashes.write_hashes.Given as goal

abbrev pub invariant-hashes : goal.invariant-hashes
invariant-hashes l = record {
  written : words_of (take l.i l.hashes) ≡ take l.i (hashes_between l.bytes l.offsets);
  len : length l.hashes ≡ length l.initial.hashes;
}
