use Rattle.std.proofs.Common.{ℕ, length, refl, ap, ◌∙◌}
use Rattle.std.proofs.lemmas.List.{get_or-map as get_or-map-at, length-map}
use Rattle.std.specs.Int.{rotate_right, w32}
use Rattle.keyed_blake3.proofs.compression.in_step.rotated_row.Goals as goal

pub invariant_of-result : goal.invariant_of-result
invariant_of-result g c =
    let x = c.args.x.now in
    record {
      full = (
        ap length c.rotated.ensures ∙ length-map _ _ ∙ x.full.0,
        ap length c.rotated-2.ensures ∙ length-map _ _ ∙ x.full.1,
        ap length c.rotated-3.ensures ∙ length-map _ _ ∙ x.full.2,
        ap length c.rotated-4.ensures ∙ length-map _ _ ∙ x.full.3,
      );
    }

pub returns : goal.returns
returns g c = λ j h.
    let x = c.args.x.now in
    let f = λ (y : ℕ). rotate_right w32 y c.args.n in
    rw (
      c.rotated.ensures,
      c.rotated-2.ensures,
      c.rotated-3.ensures,
      c.rotated-4.ensures,
      get_or-map-at f x.w0 j 0 0 (rw x.full.0 h),
      get_or-map-at f x.w1 j 0 0 (rw x.full.1 h),
      get_or-map-at f x.w2 j 0 0 (rw x.full.2 h),
      get_or-map-at f x.w3 j 0 0 (rw x.full.3 h),
    ) refl
