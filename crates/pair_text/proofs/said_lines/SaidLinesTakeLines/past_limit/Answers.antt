use Rattle.std.proofs.Common.{inl, ◌++◌}
use Rattle.pair_text.proofs.said_lines.SaidLinesTakeLines.past_limit.Goals as goal

pub returns : goal.returns
returns g c = λ before line rest past (stand, is, is_open). c.bad.ensures before (line ++ rest) stand (inl past)
