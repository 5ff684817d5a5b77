use Rattle.std.proofs.Common.{◌≡◌, ◌<◌, ℕ, drop}
use Rattle.verified_reader.specs.Kept.{size_of_kept}
use Rattle.verified_reader.proofs.kept_chunks.KeptChunks.drop_oldest.Given as goal

abbrev pub invariant-oldest : goal.invariant-oldest
invariant-oldest g l = (dropped : ℕ) × (l.self ≡ drop dropped l.fn.self) × ((fewer : ℕ) → fewer < dropped → l.most < size_of_kept (drop fewer l.fn.self))

abbrev pub decreases-oldest : goal.decreases-oldest
decreases-oldest g l = size_of_kept l.self
