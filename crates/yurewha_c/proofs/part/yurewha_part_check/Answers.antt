use Rattle.std.proofs.Common.{ℕ, ◌+◌, List, subst}
use Rattle.std.specs.Prelude.{Option, IsSomeAnd, slice_range}
use Rattle.range_proof.specs.RangeProof.{Shows}
use Rattle.range_proof.specs.Reading.{IsRead}
use Rattle.range_proof.specs.Checking.{IsSoundRead}
use Rattle.verified_reader.specs.Reader.{Part}
use Rattle.yurewha_c.proofs.part.yurewha_part_check.Goals as goal

pub returns-in_default-wanted-clause-mismatch : goal.returns-in_default-wanted-clause-mismatch
returns-in_default-wanted-clause-mismatch c = λ _.
    let P = λ (opened : Part). (bytes : List ℕ) → ¬ (IsRead opened.proof opened.from opened.to c.args.data.now bytes) in
    subst (λ (owned : Option Part). IsSomeAnd owned P) c.in-Some.ensures.value (subst P c.deref_mut.ensures.value c.in_default-wanted.ensures.mismatch)

pub returns-clause-sound : goal.returns-clause-sound
returns-clause-sound c = λ _.
    let bytes = slice_range c.args.data.now c.in-Some-wanted.skipped (c.in-Some-wanted.skipped + c.in-Some-wanted.len) in
    let P = λ (opened : Part). Shows opened.proof opened.hash opened.salt × IsSoundRead opened.proof opened.from opened.to c.args.data.now bytes in
    subst (λ (owned : Option Part). IsSomeAnd owned P) c.in-Some.ensures.value (subst P c.deref_mut.ensures.value c.in-Some-wanted.ensures.sound)
