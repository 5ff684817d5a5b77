use Rattle.std.proofs.Common.{◌+◌, ◌≢◌, ℕ, List, Some, slice_index, subst}
use Rattle.hash_numbers.proofs.Finding.{finds-set, finds-update}
use Rattle.hash_numbers.proofs.Places.{more_than_none}
use Rattle.hash_numbers.proofs.slots.Slots.place.Goals as goal

pub returns-in-Some-clause-others : goal.returns-in-Some-clause-others
returns-in-Some-clause-others g c other j below apart found =
    let slots = c.args.self.now in
    finds-set slots.numbers.items slots.mask slots.overflow c.in-Some.place (c.args.i + 1) other j (more_than_none c.args.i)
    (subst (λ (numbers : List ℕ). slice_index numbers c.in-Some.place ≢ j + 1) c.deref.ensures.value (c.in-Some.ensures.1 j below)) found

pub returns-in_ok-insert-in-None-clause-others : goal.returns-in_ok-insert-in-None-clause-others
returns-in_ok-insert-in-None-clause-others g c other j below apart found =
    let slots = c.args.self.now in
    finds-update slots.numbers.items slots.mask slots.overflow c.insert.new.self c.args.hash.now (Some c.args.i) other j apart c.in_ok-insert-in-None.ensures.updates found
