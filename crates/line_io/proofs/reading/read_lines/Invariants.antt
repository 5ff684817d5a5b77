use Rattle.std.proofs.Common.{ℕ, List, ◌-◌}
use Rattle.line_io.specs.Lines.{byte_limit}
use Rattle.std.specs.Io.KnownBytes.{Consumes}
use Rattle.line_io.specs.Steps.Taken.{IsTaken}
use Rattle.line_io.proofs.reading.read_lines.Given as goal

abbrev pub invariant-pieces : goal.invariant-pieces
invariant-pieces g l = (text : List ℕ) × IsTaken g.L.TakeLines.has_taken l.reading text
    × Consumes (g.R.Read.remaining l.fn.r) (g.R.Read.remaining l.r) text

abbrev pub decreases-pieces : goal.decreases-pieces
decreases-pieces g l = byte_limit - l.reading.count
