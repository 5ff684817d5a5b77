use Rattle.std.proofs.Common.{refl}
use Rattle.xet_chunker.specs.Gear.{gear_after}
use Rattle.xet_chunker.specs.Candidates.{Passed}
use Rattle.xet_chunker.proofs.candidates.CandidateFinder.new.Goals as goal

pub returns : goal.returns
unfolding Passed gear_after
returns c = (refl, refl)
