use Rattle.std.specs.Io.KnownBytes.{Keeps}
use Rattle.line_io.proofs.devices.write.Given as goal

abbrev pub invariant-repeats : goal.invariant-repeats
invariant-repeats g l = Keeps (g.W.Write.contents l.fn.w) (g.W.Write.contents l.w)
