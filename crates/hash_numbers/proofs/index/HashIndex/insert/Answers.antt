use Rattle.std.proofs.Common.{◌≤◌, ◌-◌, List, length, arith, subst, sym, ◌∙◌}
use Rattle.hash_numbers.specs.Index.{Entry, Hash, AreSame, Inserts}
use Rattle.hash_numbers.specs.Steps.Removing.{IsWithout}
use Rattle.hash_numbers.proofs.Numbers.{grown, same_entries}
use Rattle.hash_numbers.proofs.index.HashIndex.insert.Goals as goal

pub overflow_sub-result : goal.overflow_sub-result
overflow_sub-result g c =
    let up : length c.self.inside.map ≤ length c.put_new.new.map
    = grown c.self.inside.map c.args.pairs.now c.put_new.new.map c.len-before.ensures.map c.in-Ok.ensures.numbers in
    omega (arith, c.len-before.ensures.entries, c.len.ensures.entries)

pub returns-in-Ok-clause-inserts : goal.returns-in-Ok-clause-inserts
returns-in-Ok-clause-inserts g c =
    let up : length c.self.inside.map ≤ length c.put_new.new.map
    = grown c.self.inside.map c.args.pairs.now c.put_new.new.map c.len-before.ensures.map c.in-Ok.ensures.numbers in
    subst (λ (old : List Entry). Inserts old c.args.pairs.now c.put_new.new.map (c.len.result - c.len-before.result)) c.self.view_is (record {
      numbers = c.in-Ok.ensures.numbers;
      counted = omega (arith, c.len-before.ensures.entries, c.len.ensures.entries);
      before = c.len-before.ensures.map;
      after = c.len.ensures.map;
    })

pub returns-clause-refused : goal.returns-clause-refused
returns-clause-refused g c =
    let back = subst (λ (hashes : List Hash). IsWithout c.put_new.new.map hashes c.remove_all.new.map) c.deref.ensures.value c.remove_all.ensures in
    subst (λ (old : List Entry). AreSame old c.remove_all.new.map) c.self.view_is
    (same_entries c.self.inside.map c.remove_all.new.map c.len-before.ensures.map c.len-len.ensures.map
    (λ hash. c.in-Err.ensures.refused hash ∙ sym (back hash)))
