use Rattle.std.proofs.Common.{arith, ◌+◌, drop}
use Rattle.std.proofs.lemmas.Bool.{false≢true}
use Rattle.std.proofs.lemmas.List.{at_drop_more}
use Rattle.json_text.specs.Nesting.{deepest}
use Rattle.json_text.proofs.Deepest.{already_open}
use Rattle.json_text.proofs.nesting.is_shallow.Goals as goal

pub returns-then-unclosed-gt-DEEPEST : goal.returns-then-unclosed-gt-DEEPEST
returns-then-unclosed-gt-DEEPEST c = (
  λ t. absurd (false≢true t),
  λ shallow.
      let text = c.args.text.now in
      let rest = c.bytes.invariant.1.0 shallow in
      let next = at_drop_more (deepest (c.bytes.place, c.bytes.unclosed)) text c.bytes.byte-index 0 c.bytes-test.true in
      let more = already_open c.after.result (drop (c.bytes.byte-index + 1) text) in
      absurd (grind (arith, rest, next, more)),
)
