use Rattle.std.proofs.Common.{List, ap, sym, subst}
use Rattle.std.specs.List.{IsDistinct}
use Rattle.std.specs.Map.{keys_of}
use Rattle.hash_numbers.specs.Index.{Hash, hash_eq}
use Rattle.hash_numbers.proofs.table.HashTable.new.Goals as goal

pub invariant_of-result : goal.invariant_of-result
unfolding IsDistinct
invariant_of-result g c =
    let none = ap (λ (entries : List (Hash × g.row.V.Denot)). keys_of entries) c.new.ensures.items in
    record { distinct = subst (λ (hashes : List Hash). IsDistinct hash_eq hashes) (sym none) tt; found = none }
