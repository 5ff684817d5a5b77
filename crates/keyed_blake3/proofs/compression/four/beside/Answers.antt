use Rattle.std.proofs.Common.{refl}
use Rattle.keyed_blake3.proofs.Blake3.Rows.{four}
use Rattle.keyed_blake3.proofs.compression.four.beside.Goals as goal

pub returns-clause-words : goal.returns-clause-words
returns-clause-words c = rw (four c.args.first c.fits-first.0, four c.args.second c.fits-second.0, four c.args.third c.fits-third.0, four c.args.fourth c.fits-fourth.0) refl
