use Rattle.std.proofs.Common.{◌++◌, inl, inr, arith}
use Rattle.line_io.proofs.Lines.{NoNewline-append}
use Rattle.pair_text.proofs.LongLines.{SaysNothing-long}
use Rattle.pair_text.proofs.said_lines.SaidLinesTakeLines.extend_line.Goals as goal

pub returns-in_default-clause-fault : goal.returns-in_default-clause-fault
returns-in_default-clause-fault g c = λ before line rest within (stand, is, is_open).
    let longer = line ++ c.args.bytes.now in
    c.bad.ensures before (longer ++ rest) stand
    (elim (c.in_default.ensures.overlong line is) [
      | inl long ↦ inr (SaysNothing-long longer rest (NoNewline-append line c.args.bytes.now is_open c.requires) long.0 long.1)
      | inr far ↦ absurd (omega (arith, within, far))
    ])

pub returns-clause-taken : goal.returns-clause-taken
returns-clause-taken g c = λ before line (stand, is, is_open). (
  stand,
  c.in-Ok.ensures.open line is,
  NoNewline-append line c.args.bytes.now is_open c.requires,
)
