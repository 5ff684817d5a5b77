use Rattle.std.proofs.Common.{refl}
use Rattle.keyed_blake3.proofs.compression.in_step.byte_row.Goals as goal

pub returns : goal.returns
returns g c = λ j. rw (c.bytes_of.ensures, c.bytes_of-2.ensures, c.bytes_of-3.ensures, c.bytes_of-4.ensures) refl
