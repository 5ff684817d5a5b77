use Rattle.std.proofs.Common.{◌≡◌, ◌≤◌, ◌+◌, ◌++◌, ℕ, List, length}
use Rattle.line_io.specs.Lines.{byte_limit}
use Rattle.line_io.specs.Steps.Taken.{IsTaken}
use Rattle.line_io.proofs.reading.Reading.take_within.Given as goal

abbrev pub invariant-lines : goal.invariant-lines
invariant-lines g l = (done : List ℕ) × (l.piece ≡ done ++ l.rest)
    × ((text : List ℕ) → length text + length l.piece ≤ byte_limit → IsTaken g.L.TakeLines.has_taken l.fn.self text → IsTaken g.L.TakeLines.has_taken l.self (text ++ done))

abbrev pub decreases-lines : goal.decreases-lines
decreases-lines g l = length l.rest
