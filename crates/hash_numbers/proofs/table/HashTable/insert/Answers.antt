use Rattle.std.proofs.Common.{◌≡◌, List, Some, false, length, arith, subst, sym}
use Rattle.std.specs.Prelude.{is_some}
use Rattle.std.specs.List.{IsDistinct}
use Rattle.std.specs.Map.{keys_of}
use Rattle.std.proofs.lemmas.Map.Entries.{length-keys_of}
use Rattle.xet_hash.specs.FiniteMap.{value_at, Sets}
use Rattle.hash_numbers.specs.Index.{Hash, hash_eq}
use Rattle.hash_numbers.specs.Steps.Finding.{AreFound, IsTable}
use Rattle.hash_numbers.proofs.Entries.{distinct-push, keys-push, sets-push}
use Rattle.hash_numbers.proofs.Finding.{first-found}
use Rattle.hash_numbers.proofs.table.HashTable.insert.Goals as goal

pub invariant_of-self-in_err-place_last : goal.invariant_of-self-in_err-place_last
invariant_of-self-in_err-place_last g c = record {
  distinct = c.make_room.ensures.distinct;
  found = c.in_err-place_last.ensures.refused (keys_of c.self.inside.entries.items) c.make_room.ensures.found;
}

pub invariant_of-self-in_err-push : goal.invariant_of-self-in_err-push
invariant_of-self-in_err-push g c =
    let entries = c.self.inside.entries.items in
    let hash = c.args.hash in
    let lacks : is_some (value_at hash_eq entries hash) ≡ false = subst (λ (l : List (Hash × g.row.V.Denot)). is_some (value_at hash_eq l hash) ≡ false) (sym c.self.view_is) c.requires in
    let once = distinct-push entries hash c.args.value c.make_room.ensures.distinct lacks in
    let count : length (keys_of entries) ≡ c.len.result = omega (arith, length-keys_of entries, c.self.inside.entries.ok) in
    let placed = c.in_ok-place_last.ensures.placed (keys_of entries) count once c.make_room.ensures.found in
    subst (λ (l : List (Hash × g.row.V.Denot)). IsTable l c.place_last.new.slots) (sym c.in_err-push.ensures.items) (record {
      distinct = c.make_room.ensures.distinct;
      found = first-found (keys_of entries) hash c.place_last.new.slots placed;
    })

pub invariant_of-self-2 : goal.invariant_of-self-2
invariant_of-self-2 g c =
    let entries = c.self.inside.entries.items in
    let hash = c.args.hash in
    let lacks : is_some (value_at hash_eq entries hash) ≡ false = subst (λ (l : List (Hash × g.row.V.Denot)). is_some (value_at hash_eq l hash) ≡ false) (sym c.self.view_is) c.requires in
    let once = distinct-push entries hash c.args.value c.make_room.ensures.distinct lacks in
    let count : length (keys_of entries) ≡ c.len.result = omega (arith, length-keys_of entries, c.self.inside.entries.ok) in
    let placed = c.in_ok-place_last.ensures.placed (keys_of entries) count once c.make_room.ensures.found in
    let keys = sym (keys-push entries hash c.args.value) in
    subst (λ (l : List (Hash × g.row.V.Denot)). IsTable l c.place_last.new.slots) (sym c.in_ok-push.ensures.items) (record {
      distinct = subst (λ (l : List Hash). IsDistinct hash_eq l) keys once;
      found = subst (λ (l : List Hash). AreFound l c.place_last.new.slots) keys placed;
    })

pub returns-clause-sets : goal.returns-clause-sets
returns-clause-sets g c =
    let entries = c.self.inside.entries.items in
    let hash = c.args.hash in
    let lacks : is_some (value_at hash_eq entries hash) ≡ false = subst (λ (l : List (Hash × g.row.V.Denot)). is_some (value_at hash_eq l hash) ≡ false) (sym c.self.view_is) c.requires in
    subst (λ (l : List (Hash × g.row.V.Denot)). Sets hash_eq l hash (Some c.args.value) c.push.new.self.items) c.self.view_is
    (subst (λ (l : List (Hash × g.row.V.Denot)). Sets hash_eq entries hash (Some c.args.value) l) (sym c.in_ok-push.ensures.items)
    (sets-push entries hash c.args.value lacks))
