use Rattle.std.proofs.Common.{◌≡◌, ◌-◌, ◌≤◌, [], length}
use Rattle.std.specs.Io.KnownBytes.{Consumes}
use Rattle.line_io.specs.Lines.{NoNewline, byte_limit}
use Rattle.line_io.proofs.line_and_data.LineAndData.read_line.Given as goal

abbrev pub invariant-pieces : goal.invariant-pieces
invariant-pieces g l = NoNewline l.line.items × (length l.line.items ≤ byte_limit) × (l.data.items ≡ [])
    × Consumes (g.R.Read.remaining l.fn.r) (g.R.Read.remaining l.r) l.line.items

abbrev pub decreases-pieces : goal.decreases-pieces
decreases-pieces g l = byte_limit - length l.line.items
