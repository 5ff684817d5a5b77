use Rattle.std.proofs.Common.{ℕ, ◌+◌, ◌-◌, List, subst}
use Rattle.std.specs.Prelude.{Option, IsSomeAnd, slice_range}
use Rattle.range_proof.specs.RangeProof.{Proof}
use Rattle.range_proof.specs.Reading.{IsRead}
use Rattle.range_proof.specs.Checking.{IsSoundRead}
use Rattle.yurewha_c.proofs.opened_range.yurewha_opened_range_read.Goals as goal

pub returns-in_default-place-clause-mismatch : goal.returns-in_default-place-clause-mismatch
returns-in_default-place-clause-mismatch c = λ _.
    subst (λ (owned : Option Proof). IsSomeAnd owned (λ proof. (bytes : List ℕ) → ¬ (IsRead proof c.args.from c.args.to c.args.data.now bytes))) c.in-Some.ensures.value
    (subst (λ (proof : Proof). (bytes : List ℕ) → ¬ (IsRead proof c.args.from c.args.to c.args.data.now bytes)) c.deref.ensures c.in_default-place.ensures.none)

pub returns-clause-sound : goal.returns-clause-sound
returns-clause-sound c = λ _.
    let start = c.in-Some-place.found in
    let bytes = slice_range c.args.data.now start (start + (c.args.to - c.args.from)) in
    subst (λ (owned : Option Proof). IsSomeAnd owned (λ proof. IsSoundRead proof c.args.from c.args.to c.args.data.now bytes)) c.in-Some.ensures.value
    (subst (λ (proof : Proof). IsSoundRead proof c.args.from c.args.to c.args.data.now bytes) c.deref.ensures c.in-Some-place.ensures.sound)
