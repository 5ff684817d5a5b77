use Rattle.std.proofs.Common.{◌≡◌, ◌-◌, ◌+◌, ◌++◌, ℕ, List, Option, length}
use Rattle.line_io.specs.LineAndData.{HasRead}
use Rattle.line_io.proofs.line_and_data.LineAndData.read_data.Given as goal

abbrev pub invariant-pieces : goal.invariant-pieces
invariant-pieces g l = ((input : Option (List ℕ)) → HasRead l.fn.self.line.items l.fn.self.data.items input (g.R.Read.remaining l.fn.r)
    → HasRead l.self.line.items l.self.data.items input (g.R.Read.remaining l.r))
    × (l.self.line.items ≡ l.fn.self.line.items) × ((more : List ℕ) × (l.self.data.items ≡ l.fn.self.data.items ++ more))

abbrev pub decreases-pieces : goal.decreases-pieces
decreases-pieces g l = (l.len + 1) - length l.self.data.items
