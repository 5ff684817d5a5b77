use Rattle.std.proofs.Common.{map}
use Rattle.verified_reader.specs.Kept.{KeepsAll}
use Rattle.verified_reader.specs.Steps.KeptChunks.{chunk_of}
use Rattle.verified_reader.proofs.kept_chunks.KeptChunks.keep_all.Given as goal

abbrev pub invariant-chunks : goal.invariant-chunks
invariant-chunks g l = KeepsAll l.most l.fn.self (map chunk_of l.yielded) l.self
