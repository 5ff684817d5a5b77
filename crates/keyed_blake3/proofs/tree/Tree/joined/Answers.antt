use Rattle.std.proofs.Common.{◌≡◌, ◌-◌, ℕ, List, [], get_or, arith, refl, sym, ◌∙◌}
use Rattle.keyed_blake3.specs.Blake3.{parent_value}
use Rattle.keyed_blake3.proofs.Blake3.Finishing.{joined_done, joined_top, root_flag-some}
use Rattle.keyed_blake3.proofs.tree.Tree.joined.Goals as goal

pub joins-init : goal.joins-init
joins-init c = record { used = c.requires; joined = λ x is. (x, is, refl) }

pub joins-preserved : goal.joins-preserved
joins-preserved c =
    let t = c.args.self.now in
    let left : List ℕ = get_or t.cv_stack (c.joins.used - 1) [] in
    record {
      used = omega arith;
      joined = λ x is.
          let j = c.joins.invariant.joined x is in (
            λ f. parent_value t.key left (j.0 0) f,
            c.parent_value-value.ensures ∙ rw (c.root_flag.ensures, j.1, root_flag-some c.joins.used c.joins-test.true) refl,
            sym (joined_top t.key t.cv_stack c.joins.used left j.0 8 c.joins-test.true (omega arith) refl) ∙ j.2,
          );
    }

pub returns : goal.returns
returns c = λ x is.
    let t = c.args.self.now in
    let j = c.joins.invariant.joined x is in
    let none : c.joins.used ≡ 0 = omega arith in
    let value : c.joins.value ≡ j.0 8 = rw none at j.1 in
    value ∙ sym (joined_done t.key t.cv_stack c.joins.used j.0 8 none) ∙ j.2
