use Rattle.std.proofs.Common.{Option, subst, sym, ◌∙◌}
use Rattle.hash_numbers.specs.Steps.Finding.{AreFound, Finds}
use Rattle.hash_numbers.specs.declared.slots.Slots.{Slots}
use Rattle.hash_numbers.proofs.Finding.{last-moved, last-taken}
use Rattle.hash_numbers.proofs.table.move_last.Goals as goal

pub returns-then-i-last : goal.returns-then-i-last
returns-then-i-last g c hashes rest moves long is moved_is found =
    last-moved (Finds c.in-Some.slots) (Finds c.take.new.self) hashes rest c.args.i c.args.hash.now moves is c.take.ensures
    (subst (λ (s : Option (Slots g.row.A.Denot)). AreFound hashes s) c.in-Some.is found)
    (Finds c.renumber.new.self) c.args.moved.now c.args.last (sym long) c.if-i-last.true moved_is c.renumber.ensures.moved c.renumber.ensures.others

pub returns-else-i-last : goal.returns-else-i-last
returns-else-i-last g c hashes rest moves long is moved_is found =
    last-taken (Finds c.in-Some.slots) (Finds c.take.new.self) hashes rest c.args.i c.args.hash.now moves is c.take.ensures
    (subst (λ (s : Option (Slots g.row.A.Denot)). AreFound hashes s) c.in-Some.is found)
    (c.if-i-last.false ∙ sym long)
