use Rattle.std.proofs.Common.{List, ℕ, bit_xor, refl, ap, ◌∙◌}
use Rattle.keyed_blake3.specs.Blake3.{add32}
use Rattle.keyed_blake3.specs.Steps.LaneRows.{byte_row_at, row_at}
use Rattle.keyed_blake3.proofs.Blake3.InStep.{half_columns_by_steps}
use Rattle.keyed_blake3.proofs.compression.in_step.half_columns.Goals as goal
use lib.Lanes.{zip2}

pub returns : goal.returns
returns g c = λ j h.
    let v = c.args.v.now in
    let x = c.args.x.now in
    let l = g.row.L in
    half_columns_by_steps (row_at j v.a) (row_at j v.b) (row_at j v.c) (byte_row_at l j v.d) (row_at j x)
    (row_at j c.sum.result) (row_at j c.sum-a.result) (zip2 bit_xor (byte_row_at l j v.d) (row_at j c.sum-a.result))
    (byte_row_at l j c.rotated_xor_row-d.result) (row_at j c.sum-c.result) (row_at j c.xor.result) (row_at j c.rotated_row-b.result)
    c.args.r c.args.s refl refl refl refl refl
    (c.sum.ensures j h) (c.sum-a.ensures j h) refl (c.rotated_xor_row-d.ensures j h)
    (c.sum-c.ensures j h ∙ ap (λ (d : List ℕ). zip2 add32 (row_at j v.c) d) (c.word_row.ensures j))
    (c.xor.ensures j h) (c.rotated_row-b.ensures j h)
