use Rattle.std.proofs.Common.{◌≡◌, ◌≤◌, ◌+◌, ◌-◌, length, take, drop}
use Rattle.verified_reader.specs.Kept.{AreKeptAt, AreUsed}
use Rattle.verified_reader.proofs.kept_chunks.KeptChunks.read.Given as goal

abbrev pub invariant-chunks : goal.invariant-chunks
invariant-chunks g l = record {
  within : l.done ≤ length l.room;
  copied : AreKeptAt l.fn.self l.from (take l.done l.room);
  rest : drop l.done l.room ≡ drop l.done l.fn.room;
  used : AreUsed l.fn.self l.from (l.from + l.done) l.self;
}

abbrev pub decreases-chunks : goal.decreases-chunks
decreases-chunks g l = length l.room - l.done
