use Rattle.hash_numbers.proofs.Finding.{finds-insert}
use Rattle.hash_numbers.proofs.slots.Slots.renumber.Goals as goal

pub returns-then-contains_key-clause-others : goal.returns-then-contains_key-clause-others
returns-then-contains_key-clause-others g c other j differs apart found =
    let slots = c.args.self.now in
    finds-insert slots.numbers.items slots.mask slots.overflow c.insert-old.new.self c.args.hash.now c.args.to other j c.insert-old.result apart
    c.insert-old.ensures.updates c.insert-old.ensures.err found
