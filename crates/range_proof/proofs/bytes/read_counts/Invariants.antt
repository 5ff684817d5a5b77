use Rattle.std.proofs.Common.{◌≡◌, ◌%◌, ◌++◌, length}
use Rattle.range_proof.specs.ProofBytes.{count_bytes}
use Rattle.range_proof.proofs.bytes.read_counts.Given as goal

abbrev pub invariant-counts : goal.invariant-counts
invariant-counts g l = (count_bytes l.counts.items ++ l.rest ≡ l.fn.bytes) × (length l.rest % 2 ≡ 0)

abbrev pub decreases-counts : goal.decreases-counts
decreases-counts g l = length l.rest
