use Rattle.std.proofs.Common.{◌≤◌, ◌↔◌, drop}
use Rattle.json_text.specs.Nesting.{deepest, nesting}
use Rattle.json_text.proofs.nesting.is_shallow.Given as goal

abbrev pub invariant-bytes : goal.invariant-bytes
invariant-bytes l = (l.unclosed ≤ 32) × ((nesting l.text ≤ 32) ↔ (deepest (l.place, l.unclosed) (drop l.byte-index l.text) ≤ 32))
