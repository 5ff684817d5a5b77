use Rattle.std.proofs.Common.{arith, ◌≡◌, ◌+◌, ◌*◌, ◌/◌, ◌%◌, ◌<◌, min, mod-lt, ◌∙◌}
use Rattle.std.proofs.Math.Nat.{mod-add-div'}
use Rattle.verified_reader.proofs.Reading.{least_is}
use Rattle.verified_reader.proofs.reader.VerifiedReader.piece_at.Goals as goal

pub returns-clause-some : goal.returns-clause-some
returns-clause-some g c =
    let place = c.args.place in
    let piece = c.args.piece in
    let some : 0 < piece = grind (arith, c.if-piece-eq0.false) in
    let rest : place % piece < piece = mod-lt place some in
    let parts : place % piece + place / piece * piece ≡ place = mod-add-div' place piece in
    let last = c.within_file-last.ensures in
    let fits = c.within_file-last.type_inv in
    let sum = c.saturating_add.ensures in
    let least : c.min.result ≡ min c.saturating_add.result c.within_file-last.result = c.min.ensures ∙ least_is c.saturating_add.result c.within_file-last.result in
    let before = c.if-last-place.false in
    record {
      number = place / piece;
      begin_is = omega (arith, parts);
      end_is = omega (arith, last, fits, sum, least);
      begins = omega arith;
      ends = omega (arith, before, last, fits, sum, least, rest);
    }
