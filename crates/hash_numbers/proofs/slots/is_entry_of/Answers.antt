use Rattle.std.proofs.Common.{ap, sym, ◌∙◌}
use Rattle.hash_numbers.specs.Index.{Hash, hash_eq}
use Rattle.hash_numbers.proofs.Places.{is_entry}
use Rattle.hash_numbers.proofs.slots.is_entry_of.Goals as goal

pub returns-then-i-entries : goal.returns-then-i-entries
returns-then-i-entries g c =
    is_entry c.args.entries.now c.args.i c.index-entries-i.result c.args.hash.now c.eq.result c.if-i-entries.true c.index-entries-i.is
    (c.eq.ensures ∙ ap (λ (entry : Hash × g.row.V.Denot). hash_eq entry.0 c.args.hash.now) (sym c.index-entries-i.is))
