use Rattle.std.proofs.Common.{◌≡◌, ℕ, inl, inr, ◌+◌, ◌/◌, ◌^◌, ◌%◌, ◌∙◌, arith, ap, take, refl, sym}
use Rattle.std.proofs.lemmas.Bool.{cases_lt}
use Rattle.std.specs.Int.RustNames.{count_ones}
use Rattle.keyed_blake3.proofs.Blake3.Merging.{IsMerging-first, IsMerging-join, IsMerging-put, at_end_put, one_of_ones, ones_below, ones_lt, ones_of_odd, some_of_ones}
use Rattle.keyed_blake3.proofs.Blake3.Waiting.{ones-shift}
use Rattle.keyed_blake3.proofs.tree.add_subtree_value.Goals as goal

pub joins-init : goal.joins-init
joins-init c = record {
  used = refl;
  below = omega arith;
  some = λ n _. n;
  merging = λ k first m whole waits is small long.
      IsMerging-first c.args.key.now k c.args.number first m _ c.args.value whole small
      (ap (λ (n : ℕ). take n c.args.cv_stack.now) (sym (ap count_ones whole ∙ ones-shift k c.args.number)) ∙ waits) is;
}

pub overflow_sub-used : goal.overflow_sub-used
overflow_sub-used c = let t = c.is_joined.ensures.joined c.joins-test.true in omega (arith, t.1)

pub bounds-cv_stack-used : goal.bounds-cv_stack-used
bounds-cv_stack-used c =
    let t = c.is_joined.ensures.joined c.joins-test.true in
    omega (arith, t.1, ones_below c.joins.rest (omega arith))

pub joins-preserved : goal.joins-preserved
joins-preserved c =
    let t = c.is_joined.ensures.joined c.joins-test.true in
    let ones = ones_of_odd c.joins.rest t.0 in
    let below = ones_below c.joins.rest (omega arith) in
    record {
      used = omega (arith, t.1);
      below = omega arith;
      some = λ any kept. some_of_ones (c.joins.rest / 2) (omega (arith, t.1));
      merging = λ k first m whole waits is small long.
          rw c.parent_value-value.ensures
          (IsMerging-join c.args.key.now (first + 2 ^ k) m c.args.cv_stack.now _ c.joins.value c.joins.used c.joins.rest
          (c.joins.invariant.merging k first m whole waits is small long) t.0 (omega (arith, t.1)) (omega arith) refl small long);
    }

pub bounds-cv_stack-used-2 : goal.bounds-cv_stack-used-2
bounds-cv_stack-used-2 c = omega (arith, ones_lt 54 c.joins.rest (omega arith))

pub returns-clause-joined : goal.returns-clause-joined
returns-clause-joined c = λ none k first m whole waits is small long.
    let last = c.is_joined.ensures.put c.joins-test.false in
    let even : c.joins.rest % 2 ≡ 0 = elim (cases_lt (c.joins.rest % 2) 1) [
      | inl low ↦ omega arith
      | inr high ↦ absurd (omega (arith, last (omega arith), none, ones_of_odd c.joins.rest (omega arith)))
    ] in
    IsMerging-put c.args.key.now (first + 2 ^ k) m c.args.cv_stack.now c.joins.value c.joins.used c.joins.rest
    (c.joins.invariant.merging k first m whole waits is small long) even (omega (arith, ones_lt 54 c.joins.rest (omega arith))) small

pub returns-clause-kept : goal.returns-clause-kept
returns-clause-kept c = λ one some k first m whole waits is small long.
    let last = c.is_joined.ensures.put c.joins-test.false in
    at_end_put c.args.key.now (first + 2 ^ k) m c.args.cv_stack.now c.joins.value c.joins.used c.joins.rest
    (c.joins.invariant.merging k first m whole waits is small long) c.joins.invariant.used (omega (arith, ones_lt 54 c.joins.rest (omega arith)))
    (c.joins.invariant.some some (omega (arith, one))) (λ odd. one_of_ones c.joins.rest (omega arith) (omega (arith, last odd, one)) odd)
