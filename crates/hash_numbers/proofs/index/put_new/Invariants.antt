use Rattle.std.proofs.Common.{take}
use Rattle.hash_numbers.proofs.Numbers.{PutSoFar}
use Rattle.hash_numbers.proofs.index.put_new.Given as goal

abbrev pub invariant-pairs : goal.invariant-pairs
invariant-pairs g l = PutSoFar l.initial.map l.map l.added.items (take l.hash-index l.pairs)
