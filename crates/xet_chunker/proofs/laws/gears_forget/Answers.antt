use Rattle.std.proofs.Common.{arith}
use Rattle.xet_chunker.proofs.Cuts.Window.{window_alone}
use Rattle.xet_chunker.proofs.laws.gears_forget.Goals as goal

pub returns : goal.returns
returns c = λ before last long. window_alone 0 before last (omega arith) long
