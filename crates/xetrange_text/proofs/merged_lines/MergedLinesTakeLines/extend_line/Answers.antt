use Rattle.std.proofs.Common.{◌++◌, ℕ, List, ap, ◌∙◌}
use Rattle.line_io.proofs.Lines.{NoNewline-append}
use Rattle.xetrange_text.proofs.merged_lines.MergedLinesTakeLines.extend_line.Goals as goal

pub returns-clause-taken : goal.returns-clause-taken
returns-clause-taken g c = λ before line (ranges, good, so_far, is, is_open). (
  ranges,
  good,
  so_far,
  c.in_ok-extend_from_slice.ensures.items ∙ ap (λ (l : List ℕ). l ++ c.args.bytes.now) is,
  NoNewline-append line c.args.bytes.now is_open c.requires,
)
