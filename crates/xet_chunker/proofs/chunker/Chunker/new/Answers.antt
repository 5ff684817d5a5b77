use Rattle.std.proofs.Common.{refl, arith, add-zero}
use Rattle.xet_chunker.specs.Chunker.{Holds}
use Rattle.xet_chunker.proofs.chunker.Chunker.new.Goals as goal

pub returns : goal.returns
unfolding Holds
returns c = (refl, omega arith, λ at rest. rw add-zero refl)
