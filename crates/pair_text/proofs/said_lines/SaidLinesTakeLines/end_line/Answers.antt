use Rattle.std.proofs.Common.{inr}
use Rattle.line_io.specs.Lines.{content}
use Rattle.pair_text.proofs.said_lines.SaidLinesTakeLines.end_line.Goals as goal

pub returns-in_default-clause-fault : goal.returns-in_default-clause-fault
returns-in_default-clause-fault g c = λ before line within (stand, is, is_open).
    c.bad.ensures before line stand (inr (c.in_default.ensures.nothing (content line) is))

pub returns-clause-taken : goal.returns-clause-taken
returns-clause-taken g c = λ before line within (stand, is, is_open). (
  c.in_ok-take.ensures.taken before line within (c.in-Some.ensures.says (content line) is) stand,
  c.restart.ensures,
  tt,
)
