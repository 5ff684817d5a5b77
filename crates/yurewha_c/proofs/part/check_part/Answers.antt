use Rattle.std.proofs.Common.{◌≡◌, ◌-◌, ◌+◌, ℕ, List, length, refl, ap, subst, ◌∙◌}
use Rattle.std.specs.Prelude.{slice_range}
use Rattle.range_proof.specs.RangeProof.{Shows, begin_of}
use Rattle.range_proof.specs.Reading.{IsRead}
use Rattle.range_proof.specs.Checking.{IsSoundRead}
use Rattle.verified_reader.specs.Reader.{Part}
use Rattle.verified_reader.proofs.InOrder.{at_none}
use Rattle.yurewha_c.proofs.RangeReading.{size_of_read, bytes_after, ends_after}
use Rattle.yurewha_c.proofs.part.check_part.Goals as goal
use Rattle.yurewha_c.proofs.part.check_part.Goals.{After-skipped}

module _ (c : After-skipped) where
  abbrev part : Part
  part = c.args.part.now

  abbrev all : List ℕ
  all = c.args.data.now

  abbrev bytes : List ℕ
  bytes = c.in_ok-bytes.bytes.now

  is_read : IsRead part.proof part.from part.to all bytes
  is_read = subst (λ (p : Part). IsRead p.proof p.from p.to all bytes) c.in_ok-bytes.ensures.same c.in_ok-bytes.ensures.read

  skipped : c.skipped.result ≡ part.from - begin_of part.proof 0
  skipped = c.skipped.ensures ∙ ap (λ (p : Part). p.from - begin_of p.proof 0) c.in_ok-bytes.ensures.same

  after : bytes ≡ slice_range all c.skipped.result (c.skipped.result + length bytes)
  after = bytes_after part.proof part.from part.to (begin_of part.proof 0) all bytes refl is_read c.skipped.result skipped

pub returns-in_err-bytes-clause-mismatch : goal.returns-in_err-bytes-clause-mismatch
returns-in_err-bytes-clause-mismatch c =
    at_none c.from_residual.result
    (subst (λ (p : Part). (bytes : List ℕ) → ¬ (IsRead p.proof p.from p.to c.args.data.now bytes)) c.in_err-bytes.ensures.same c.in_err-bytes.ensures.none)

pub returns-clause-read : goal.returns-clause-read
returns-clause-read c =
    subst (λ (bytes : List ℕ). IsRead c.args.part.now.proof c.args.part.now.from c.args.part.now.to c.args.data.now bytes) (after c) (is_read c)

pub returns-clause-sound : goal.returns-clause-sound
returns-clause-sound c = (
  subst (λ (p : Part). Shows p.proof p.hash p.salt) c.in_ok-bytes.ensures.same c.in_ok-bytes.ensures.shows,
  subst (λ (bytes : List ℕ). IsSoundRead c.args.part.now.proof c.args.part.now.from c.args.part.now.to c.args.data.now bytes) (after c)
      (subst (λ (p : Part). IsSoundRead p.proof p.from p.to c.args.data.now c.in_ok-bytes.bytes.now) c.in_ok-bytes.ensures.same c.in_ok-bytes.ensures.sound),
)

pub returns-clause-within : goal.returns-clause-within
returns-clause-within c =
    let part = c.args.part.now in
    ends_after part.proof part.from part.to (begin_of part.proof 0) c.args.data.now c.in_ok-bytes.bytes.now refl (is_read c) c.skipped.result (skipped c)

pub returns-clause-all : goal.returns-clause-all
returns-clause-all c =
    let part = c.args.part.now in
    size_of_read part.proof part.from part.to (begin_of part.proof 0) c.args.data.now c.in_ok-bytes.bytes.now refl (is_read c)
