use Rattle.std.proofs.Common.{◌≡◌, List, length, map, take}
use Rattle.upload_session.specs.Hashes.{Hash, is_among, Knows}
use Rattle.yurewha_c.specs.Pieces.{words_of}
use Rattle.yurewha_c.specs.Sessions.{one_if}
use Rattle.yurewha_c.proofs.session_state.write_known.Given as goal

abbrev pub invariant-hashes : goal.invariant-hashes
invariant-hashes l = record {
  written : (all : List Hash) → Knows l.kept.session.kept all →
      take l.i l.known ≡ map (λ hash. one_if (is_among all hash)) (words_of (take l.i l.hashes));
  len : length l.known ≡ length l.initial.known;
}
