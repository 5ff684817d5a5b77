use Rattle.std.proofs.Common.{ℕ, List}
use Rattle.std.specs.Io.KnownBytes.{Keeps}
use Rattle.xet_hash.specs.HashedWrite.{inner_writer, HoldsWritten}
use Rattle.xet_hash.proofs.data_hash.hashed_write.HashedWrite.write_some.Given as goal

abbrev pub invariant-repeats : goal.invariant-repeats
invariant-repeats g l = record {
  bytes : Keeps (g.W.Write.contents (inner_writer l.fn.self)) (g.W.Write.contents (inner_writer l.self));
  message : (m : List ℕ) → HoldsWritten l.fn.self m → HoldsWritten l.self m;
}
