use Rattle.std.proofs.Common.{◌≡◌, ◌++◌, map, take}
use Rattle.level_nodes.specs.FlatLevels.{count_of}
use Rattle.range_proof.specs.ProofBytes.{count_bytes}
use Rattle.range_proof.proofs.bytes.put_counts.Given as goal

abbrev pub invariant-levels : goal.invariant-levels
invariant-levels g l = l.bytes.items ≡ l.fn.bytes.items ++ count_bytes (map count_of (take l.level-index l.levels))
