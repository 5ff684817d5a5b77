use Rattle.std.proofs.Common.{◌≡◌, ◌++◌, ℕ, List, length}
use Rattle.std.specs.Io.KnownBytes.{Appends}
use Rattle.xet_hash.specs.HashedWrite.{inner_writer, HoldsWritten}
use Rattle.xet_hash.proofs.data_hash.hashed_write.HashedWriteWrite.write_all.Given as goal

abbrev pub invariant-rest : goal.invariant-rest
invariant-rest g l = (taken : List ℕ) × (l.slice ≡ taken ++ l.rest)
    × Appends (g.W.Write.contents (inner_writer l.fn.self)) (g.W.Write.contents (inner_writer l.self)) taken
    × ((m : List ℕ) → HoldsWritten l.fn.self m → HoldsWritten l.self (m ++ taken))

abbrev pub decreases-rest : goal.decreases-rest
decreases-rest g l = length l.rest
