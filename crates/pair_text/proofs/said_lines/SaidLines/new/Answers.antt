use Rattle.pair_text.proofs.said_lines.SaidLines.new.Goals as goal

pub returns : goal.returns
returns g c = (c.requires, c.new.ensures, tt)
