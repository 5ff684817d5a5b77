use Rattle.std.proofs.Common.{arith}
use Rattle.std.proofs.lemmas.Fmt.{length-decimal-le}
use Rattle.xet_roots.proofs.sizes.write_size.Goals as goal

pub write_digits-start-requires : goal.write_digits-start-requires
write_digits-start-requires c = (length-decimal-le 20 c.args.size (omega arith) (omega (arith, c.ranges.size.fits)) c.ranges.size.fits, omega arith)
