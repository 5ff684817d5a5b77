use Rattle.std.proofs.Common.{◌≡◌, List, get_or, subst, sym}
use Rattle.hash_numbers.specs.Index.{Hash}
use Rattle.hash_numbers.proofs.Entries.{value_at-entry}
use Rattle.hash_numbers.proofs.table.HashTable.get.Goals as goal

pub returns-in-Some : goal.returns-in-Some
returns-in-Some g c =
    let entry = c.index.result.now in
    let i = c.in-Some.i in
    sym (value_at-entry c.args.self.now i c.args.hash.now entry c.position.ensures.map c.in-Some.ensures.found
    (subst (λ (l : List (Hash × g.row.V.Denot)). entry ≡ get_or l i entry) c.self.view_is c.index.ensures))
