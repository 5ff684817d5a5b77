use Rattle.std.proofs.Common.{◌≡◌, ◌+◌, ◌-◌, ◌<◌, ◌∷◌, List, None, [], IsPermutation, get_or, length, arith, ap, subst, sym, ◌∙◌}
use Rattle.std.specs.Map.{keys_of}
use Rattle.std.proofs.lemmas.List.{get_or-map}
use Rattle.std.proofs.lemmas.List.Sorted.{IsPermutation-swap_remove}
use Rattle.std.proofs.lemmas.Map.Entries.{length-keys_of}
use Rattle.xet_hash.specs.FiniteMap.{Sets}
use Rattle.hash_numbers.specs.Index.{Hash, hash_eq}
use Rattle.hash_numbers.specs.Steps.Places.{IsEntryOf}
use Rattle.hash_numbers.proofs.Entries.{distinct-taken, sets-taken, value_at-entry}
use Rattle.hash_numbers.proofs.Finding.{taken-keys}
use Rattle.hash_numbers.proofs.table.HashTable.remove.Given.{Over}
use Rattle.hash_numbers.proofs.table.HashTable.remove.Goals as goal
use Rattle.hash_numbers.proofs.table.HashTable.remove.Goals.{After-swap_remove-value}

-- the entry is among those of the fields
has : (g : Over) (c : After-swap_remove-value g) → IsEntryOf c.self.inside.entries.items c.in_ok-i.i c.args.hash.now
has g c = subst (λ (l : List (Hash × g.row.V.Denot)). IsEntryOf l c.in_ok-i.i c.args.hash.now) (sym c.self.view_is) c.in_ok-i.ensures.found

-- the others are left
moves : (g : Over) (c : After-swap_remove-value g) → IsPermutation c.self.inside.entries.items (c.swap_remove-value.result ∷ c.swap_remove-value.new.self.items)
moves g c =
    let entries = c.self.inside.entries.items in
    let entry = c.swap_remove-value.result in
    subst (λ (l : List (Hash × g.row.V.Denot)). IsPermutation entries (entry ∷ l)) (sym c.swap_remove-value.ensures.items)
    (IsPermutation-swap_remove entries c.in_ok-i.i entry (has g c).inside c.swap_remove-value.ensures.value)

pub invariant_of-self : goal.invariant_of-self
invariant_of-self g c =
    let entries = c.self.inside.entries.items in
    let rest = c.swap_remove-value.new.self.items in
    let i = c.in_ok-i.i in
    let entry = c.swap_remove-value.result in
    let inside : i < length entries = (has g c).inside in
    let count = c.self.inside.entries.len in
    let whole : length entries ≡ count = omega (arith, c.self.inside.entries.ok) in
    let shorter : length rest + 1 ≡ count = omega (arith, c.swap_remove-value.ensures.len, c.swap_remove-value.new.self.ok) in
    let by_index = c.swap_remove-value.ensures.by_index in
    let keys = taken-keys entries rest i count entry whole c.self.invariant.distinct inside shorter by_index.0 by_index.1 in
    let long : length (keys_of rest) ≡ c.len-last.result - 1 = omega (arith, length-keys_of rest, c.len-last.ensures) in
    let last : c.len-last.result - 1 < length entries = omega (arith, c.len-last.ensures) in
    let first = λ (e : Hash × g.row.V.Denot). e.0 in
    record {
      distinct = distinct-taken entries rest entry (moves g c) c.self.invariant.distinct;
      found = c.move_last.ensures (keys_of entries) (keys_of rest) keys long (has g c).hash_is
          (get_or-map first entries (c.len-last.result - 1) c.index.result.now [] last ∙ ap first (sym c.index.ensures)) c.self.invariant.found;
    }

pub returns-clause-value : goal.returns-clause-value
returns-clause-value g c =
    let entry = c.swap_remove-value.result in
    sym (value_at-entry c.args.self.now c.in_ok-i.i c.args.hash.now entry c.position.ensures.map c.in_ok-i.ensures.found
    (subst (λ (l : List (Hash × g.row.V.Denot)). entry ≡ get_or l c.in_ok-i.i entry) c.self.view_is c.swap_remove-value.ensures.value))

pub returns-clause-sets : goal.returns-clause-sets
returns-clause-sets g c =
    let entries = c.self.inside.entries.items in
    let rest = c.swap_remove-value.new.self.items in
    let i = c.in_ok-i.i in
    let entry = c.swap_remove-value.result in
    let first = λ (e : Hash × g.row.V.Denot). e.0 in
    let hash_is : entry.0 ≡ c.args.hash.now
    = ap first c.swap_remove-value.ensures.value ∙ sym (get_or-map first entries i entry [] (has g c).inside) ∙ (has g c).hash_is in
    subst (λ (l : List (Hash × g.row.V.Denot)). Sets hash_eq l c.args.hash.now None rest) c.self.view_is
    (subst (λ (h : Hash). Sets hash_eq entries h None rest) hash_is (sets-taken entries rest entry (moves g c) c.self.invariant.distinct))
