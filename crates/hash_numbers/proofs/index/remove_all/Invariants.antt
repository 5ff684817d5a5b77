use Rattle.std.proofs.Common.{take}
use Rattle.hash_numbers.specs.Steps.Removing.{IsWithout}
use Rattle.hash_numbers.proofs.index.remove_all.Given as goal

abbrev pub invariant-hashes : goal.invariant-hashes
invariant-hashes g l = IsWithout l.initial.map (take l.hash-index l.hashes) l.map
