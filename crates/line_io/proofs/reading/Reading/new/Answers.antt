use Rattle.std.proofs.Common.{[], refl, arith}
use Rattle.std.proofs.lemmas.Bool.{false≢true}
use Rattle.line_io.proofs.Pieces.{StandsAt-start}
use Rattle.line_io.proofs.reading.Reading.new.Goals as goal

pub returns : goal.returns
returns g c = record {
  before = [];
  line = [];
  taken = c.requires;
  stands_at = StandsAt-start;
  begun = ((λ h. absurd (false≢true h)), (λ h. absurd (omega (arith, h))));
  count_is = refl;
  within = omega arith;
}
