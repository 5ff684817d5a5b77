use Rattle.std.proofs.Common.{◌≤◌, ◌-◌}
use Rattle.verified_reader.specs.Kept.{AllKept}
use Rattle.verified_reader.proofs.kept_chunks.KeptChunks.first_missing.Given as goal

abbrev pub invariant-chunks : goal.invariant-chunks
invariant-chunks g l = record {
  near : l.from ≤ l.place;
  all : AllKept l.self l.from l.place;
}

abbrev pub decreases-chunks : goal.decreases-chunks
decreases-chunks g l = l.to - l.place
