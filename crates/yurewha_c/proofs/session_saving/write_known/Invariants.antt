use Rattle.std.proofs.Common.{◌≡◌, length, take}
use Rattle.yurewha_c.specs.Pieces.{words_of}
use Rattle.yurewha_c.proofs.session_saving.write_known.Given as goal

abbrev pub invariant-hashes : goal.invariant-hashes
invariant-hashes l = record {
  written : words_of (take l.i l.hashes) ≡ take l.i l.known;
  len : length l.hashes ≡ length l.initial.hashes;
}
