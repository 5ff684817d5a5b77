use Rattle.std.proofs.Common.{refl}
use Rattle.keyed_blake3.specs.Blake3.{round}
use Rattle.keyed_blake3.specs.Steps.Rows.{quad_at, state_in}
use Rattle.keyed_blake3.proofs.Blake3.Rows.{columns, diagonals, round_by_halves}
use Rattle.keyed_blake3.proofs.compression.states.round.Goals as goal

pub returns : goal.returns
unfolding round columns diagonals
returns g c = λ j h.
    let v = c.args.v.now in
    let m = c.args.m.now in
    let v2 = c.half_columns-v-2.result in
    round_by_halves (quad_at j v.a) (quad_at j v.b) (quad_at j v.c) (quad_at j v.d) (quad_at j v2.a) (quad_at j v2.b) (quad_at j v2.c) (quad_at j v2.d)
    (quad_at j m.column_first) (quad_at j m.column_second) (quad_at j m.diagonal_first) (quad_at j m.diagonal_second)
    (state_in j c.half_columns-v.result) (state_in j c.turned-v.result) (state_in j c.half_columns-v-3.result) (state_in j c.half_columns-v-4.result)
    (state_in j c.turned_back.result) refl refl refl refl refl refl refl refl
    (c.half_columns-v.ensures j h) (c.half_columns-v-2.ensures j h) (c.turned-v.ensures j h) (c.half_columns-v-3.ensures j h)
    (c.half_columns-v-4.ensures j h) (c.turned_back.ensures j h)
