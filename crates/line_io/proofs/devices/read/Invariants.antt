use Rattle.std.specs.Io.KnownBytes.{Keeps}
use Rattle.line_io.proofs.devices.read.Given as goal

abbrev pub invariant-repeats : goal.invariant-repeats
invariant-repeats g l = Keeps (g.R.Read.remaining l.fn.r) (g.R.Read.remaining l.r)
