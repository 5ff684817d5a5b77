use Rattle.std.proofs.Common.{◌≡◌, ℕ, get_or, refl, replicate, ◌∙◌}
use Rattle.std.proofs.lemmas.Simd.{get_or-replicate}
use Rattle.keyed_blake3.specs.Steps.LaneRows.{byte_row_at, row_at}
use Rattle.keyed_blake3.proofs.Blake3.InStep.{first_state_by_rows}
use Rattle.keyed_blake3.proofs.compression.lanes.first_state.Goals as goal

pub returns : goal.returns
returns g c = λ j n h low high.
    let l = g.row.L in
    let splat : (x : ℕ) → get_or (replicate l x) j 0 ≡ x = λ x. get_or-replicate l j x 0 h in
    first_state_by_rows j c.args.h.now (row_at j c.row.result) (row_at j c.row-2.result) (row_at j c.row-3.result) (byte_row_at l j c.byte_row.result)
    n (get_or c.args.lens.now j 0) (get_or c.args.flags.now j 0) (c.row.ensures j) (c.row-2.ensures j)
    (c.row-3.ensures j ∙ rw (c.each_aligned.ensures, c.each.ensures, c.each-2.ensures, c.each-3.ensures, splat 0x6A09E667, splat 0xBB67AE85, splat 0x3C6EF372, splat 0xA54FF53A) refl)
    (c.byte_row.ensures j ∙ c.row-4.ensures j ∙ rw (low, high) refl)
