use Rattle.std.proofs.Common.{◌≡◌, ℕ, List, Option, None, IfNone, subst}
use Rattle.std.specs.Map.{keys_of}
use Rattle.xet_hash.specs.FiniteMap.{value_at}
use Rattle.hash_numbers.specs.Index.{Hash, hash_eq}
use Rattle.hash_numbers.specs.Steps.Places.{IsEntryOf}
use Rattle.hash_numbers.specs.Steps.Finding.{AllFound, AreFound, Finds}
use Rattle.hash_numbers.specs.declared.slots.Slots.{Slots}
use Rattle.hash_numbers.proofs.Finding.{absent-value}
use Rattle.hash_numbers.proofs.table.HashTable.position.Goals as goal

pub returns-in-Some-clause-absent : goal.returns-in-Some-clause-absent
returns-in-Some-clause-absent g c =
    let entries = c.self.inside.entries.items in
    let slots = c.in-Some.slots in
    let hash = c.args.hash.now in
    let found : AllFound (keys_of entries) slots = subst (λ (s : Option (Slots g.row.A.Denot)). AreFound (keys_of entries) s) c.in-Some.is c.self.invariant.found in
    subst (λ (l : List (Hash × g.row.V.Denot)). IfNone c.find.result (value_at hash_eq l hash ≡ None)) c.self.view_is
    (absent-value (Finds slots) entries hash c.find.result found
    (subst (λ (l : List (Hash × g.row.V.Denot)). IfNone c.find.result ((i : ℕ) → IsEntryOf l i hash → Finds slots hash i → ⊥)) c.deref.ensures.value c.find.ensures.absent))
