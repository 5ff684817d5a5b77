use Rattle.std.proofs.Common.{arith}
use Rattle.std.proofs.lemmas.Grind.{common_steps}
use Rattle.chunk_ranges.proofs.plain_range.PlainRangeChunkRange.join.Goals as goal

pub invariant_of-self-2 : goal.invariant_of-self-2
invariant_of-self-2 g c = grind (arith, common_steps)

pub returns-clause-stands : goal.returns-clause-stands
returns-clause-stands g c = grind (arith, common_steps)

pub returns-clause-total : goal.returns-clause-total
returns-clause-total g c = grind (arith, common_steps)
