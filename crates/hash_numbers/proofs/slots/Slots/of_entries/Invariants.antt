use Rattle.std.proofs.Common.{◌<◌, ℕ, [], get_or}
use Rattle.std.specs.Map.{keys_of}
use Rattle.hash_numbers.specs.Steps.Finding.{Finds}
use Rattle.hash_numbers.proofs.slots.Slots.of_entries.Given as goal

abbrev pub invariant-entries : goal.invariant-entries
invariant-entries g l = (j : ℕ) → j < l.i → Finds l.slots (get_or (keys_of l.entries) j []) j
