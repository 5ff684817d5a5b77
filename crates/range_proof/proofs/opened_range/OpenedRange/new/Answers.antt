use Rattle.std.proofs.Common.{rules}
use Rattle.range_proof.proofs.opened_range.OpenedRange.new.Goals as goal

pub invariant_of-result : goal.invariant_of-result
invariant_of-result g c = search rules
