use Rattle.std.proofs.Common.{◌≡◌, ◌++◌, ℕ, List, length}
use Rattle.std.specs.Io.KnownBytes.{Appends}
use Rattle.line_io.proofs.devices.write_all.Given as goal

abbrev pub invariant-rest : goal.invariant-rest
invariant-rest g l = (written : List ℕ) × (l.bytes ≡ written ++ l.rest)
    × Appends (g.W.Write.contents l.fn.w) (g.W.Write.contents l.w) written

abbrev pub decreases-rest : goal.decreases-rest
decreases-rest g l = length l.rest
