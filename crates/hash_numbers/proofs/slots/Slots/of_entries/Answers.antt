use Rattle.std.proofs.Common.{[], ◌<◌, get_or, length, arith, subst, sym}
use Rattle.std.specs.Map.{keys_of}
use Rattle.std.proofs.lemmas.List.{get_or-map}
use Rattle.std.proofs.lemmas.Map.Entries.{length-keys_of}
use Rattle.hash_numbers.specs.Index.{Hash}
use Rattle.hash_numbers.specs.Steps.Finding.{Finds}
use Rattle.hash_numbers.proofs.Finding.{place-next}
use Rattle.hash_numbers.proofs.slots.Slots.of_entries.Goals as goal

pub entries-preserved : goal.entries-preserved
entries-preserved g c =
    let entries = c.args.entries.now in
    let i = c.entries.i in
    let item = c.index-entries-i.result in
    let inside : i < length entries = omega arith in
    place-next (Finds c.entries.slots) (Finds c.place.new.self) (keys_of entries) i (get_or entries i item).0 c.requires
    (subst (λ n. i < n) (sym (length-keys_of entries)) inside)
    (get_or-map (λ (entry : Hash × g.row.V.Denot). entry.0) entries i item [] inside)
    c.in_ok-place.ensures.others c.in_ok-place.ensures.placed c.entries.invariant
