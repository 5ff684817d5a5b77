use Rattle.std.proofs.Common.{List, ℕ, refl, ap, ◌∙◌}
use Rattle.keyed_blake3.specs.Steps.LaneRows.{byte_row_at, row_at, state_at}
use Rattle.keyed_blake3.specs.Steps.Rows.{half_columns}
use Rattle.keyed_blake3.proofs.Blake3.InStep.{quad, round_in_step}
use Rattle.keyed_blake3.proofs.Blake3.Rows.{round_by_halves}
use Rattle.keyed_blake3.proofs.compression.in_step.round.Goals as goal

pub returns : goal.returns
returns g c = λ j h.
    let l = g.row.L in
    let m = c.args.m.now in
    let v = c.args.v.now in
    let v1 = c.half_columns-v.result in
    let v2 = c.half_columns-v-2.result in
    let v3 = c.half_columns-v-3.result in
    let turns : List ℕ = state_at j c.turned-v.result in
    round_by_halves (row_at j v.a) (row_at j v.b) (row_at j v.c) (byte_row_at l j v.d) (row_at j v2.a) (row_at j v2.b) (row_at j v2.c) (byte_row_at l j v2.d)
    (quad j m 0 2 4 6) (quad j m 1 3 5 7) (quad j m 14 8 10 12) (quad j m 15 9 11 13) (state_at j v1) turns (state_at j v3) (state_at j c.half_columns-v-4.result)
    (state_at j c.turned_back.result) refl refl refl refl refl refl refl refl
    (c.half_columns-v.ensures j h ∙ ap (λ (x : List ℕ). half_columns (state_at j v) x 16 12) (c.row.ensures j))
    (c.half_columns-v-2.ensures j h ∙ ap (λ (x : List ℕ). half_columns (state_at j v1) x 8 7) (c.row-2.ensures j))
    (c.turned-v.ensures j)
    (c.half_columns-v-3.ensures j h ∙ ap (λ (x : List ℕ). half_columns turns x 16 12) (c.row-3.ensures j))
    (c.half_columns-v-4.ensures j h ∙ ap (λ (x : List ℕ). half_columns (state_at j v3) x 8 7) (c.row-4.ensures j))
    (c.turned_back.ensures j)
    ∙ round_in_step j m (state_at j v)
