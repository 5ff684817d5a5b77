use Rattle.std.proofs.Common.{◌≡◌, take}
use Rattle.yurewha_c.specs.HashNumbers.{pairs_of}
use Rattle.yurewha_c.proofs.hash_index.pairs_of.Given as goal

abbrev pub invariant-hashes : goal.invariant-hashes
invariant-hashes l = l.pairs.items ≡ take l.i (pairs_of l.hashes l.numbers)
