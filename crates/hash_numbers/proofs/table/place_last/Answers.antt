use Rattle.std.proofs.Common.{Option, subst}
use Rattle.hash_numbers.specs.Steps.Finding.{AreFound, Finds}
use Rattle.hash_numbers.specs.declared.slots.Slots.{Slots}
use Rattle.hash_numbers.proofs.Finding.{last-found, on_ok}
use Rattle.hash_numbers.proofs.table.place_last.Goals as goal

pub returns-in-Some-clause-placed : goal.returns-in-Some-clause-placed
returns-in-Some-clause-placed g c =
    let slots = c.in-Some.slots in
    on_ok c.place.result (λ placed hashes long once found.
    last-found (Finds slots) (Finds c.place.new.self) hashes c.args.hash.now c.args.count long once c.place.ensures.others placed
    (subst (λ (s : Option (Slots g.row.A.Denot)). AreFound hashes s) c.in-Some.is found))
    c.place.ensures.placed
