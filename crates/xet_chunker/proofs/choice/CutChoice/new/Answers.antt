use Rattle.std.proofs.Common.{arith}
use Rattle.xet_chunker.specs.CutChoice.{IsGiven}
use Rattle.xet_chunker.proofs.choice.CutChoice.new.Goals as goal

pub returns-clause-given : goal.returns-clause-given
unfolding IsGiven
returns-clause-given c = λ message. (omega arith, λ place low high. absurd (omega arith))
