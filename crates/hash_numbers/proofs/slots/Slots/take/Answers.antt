use Rattle.std.proofs.Common.{None}
use Rattle.hash_numbers.proofs.Finding.{finds-update}
use Rattle.hash_numbers.proofs.slots.Slots.take.Goals as goal

pub returns-in-None : goal.returns-in-None
returns-in-None g c other j differs apart found =
    let slots = c.args.self.now in
    finds-update slots.numbers.items slots.mask slots.overflow c.remove.new.self c.args.hash.now None other j apart c.remove.ensures.updates found
