use Rattle.std.proofs.Common.{refl}
use Rattle.keyed_blake3.proofs.Blake3.Rows.{four}
use Rattle.keyed_blake3.proofs.compression.two.beside.Goals as goal

pub returns-clause-words : goal.returns-clause-words
returns-clause-words c = rw (four c.args.first c.fits-first.0, four c.args.second c.fits-second.0) refl
