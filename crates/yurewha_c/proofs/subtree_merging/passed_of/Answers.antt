use Rattle.std.proofs.Common.{arith, ◌≡◌, ◌<◌, ◌++◌, ◌∷◌, [], length, get_or, sym, ◌∙◌}
use Rattle.std.specs.Prelude.{Option, Some, None, IfNone}
use Rattle.yurewha_c.proofs.HandleLists.{kept_on, not_all, one_more}
use Rattle.yurewha_c.proofs.subtree_merging.passed_of.Goals as goal

in_any_case : {A P : Type 0} (o : Option A) → P → IfNone o P
in_any_case None p = p
in_any_case (Some x) p = tt

pub passing-preserved : goal.passing-preserved
passing-preserved c =
    let within : c.passing.range-index < length c.passing.ranges = omega arith in
    let so_far = c.passing.invariant.passed in
    let some : (get_or c.passing.ranges c.passing.range-index c.range-item.result).value ≡ Some c.deref.result.now = cc c.in_ok-subtree.ensures.value in
    record {
      passed = (
        so_far.0 ++ c.deref.result.now ∷ [],
        one_more c.passing.ranges c.passing.range-index c.range-item.result c.deref.result.now so_far.0 _ within some so_far.1 c.passing.invariant.kept,
        c.pass-passed.ensures so_far.0 so_far.2,
      );
      kept = kept_on c.passing.ranges c.passing.range-index c.put.new.self c.range-item.result _ (c.put.ensures ∙ c.in_ok-subtree.ensures.value) c.passing.invariant.kept;
    }

pub returns-in_err-subtree-clause-empty : goal.returns-in_err-subtree-clause-empty
returns-in_err-subtree-clause-empty c =
    let within : c.passing.range-index < length c.passing.ranges = omega arith in
    in_any_case c.from_residual.result (λ held all.
    not_all c.passing.ranges c.passing.range-index c.range-item.result _ within (sym c.in_err-subtree.ensures.value) c.passing.invariant.kept held all)

pub returns-in_err-subtree-clause-kept : goal.returns-in_err-subtree-clause-kept
returns-in_err-subtree-clause-kept c =
    kept_on c.passing.ranges c.passing.range-index c.take.new.self c.range-item.result _ (c.take.ensures.empty ∙ c.in_err-subtree.ensures.value) c.passing.invariant.kept
