use Rattle.std.proofs.Common.{◌≡◌, ℕ, bit_xor, length, refl}
use Rattle.std.specs.Int.{rotate_right, w32}
use Rattle.keyed_blake3.specs.Blake3.{add32}
use Rattle.keyed_blake3.specs.Steps.Rows.{quad_at}
use Rattle.keyed_blake3.proofs.Blake3.InStep.{half_columns_by_steps}
use Rattle.keyed_blake3.proofs.Blake3.SharedRows.{length-both, length-each, quads-both, quads-each}
use Rattle.keyed_blake3.proofs.compression.states.half_columns.Goals as goal

pub returns : goal.returns
returns g c = λ j h.
    let v = c.args.v.now in
    let n : ℕ = g.row.N in
    let la0 : length c.sum.result ≡ n = length-both add32 v.a v.b _ v.full.0 v.full.1 c.sum.ensures in
    let la : length c.sum-a.result ≡ n = length-both add32 _ c.args.x.now _ la0 c.requires.full c.sum-a.ensures in
    let lx : length c.xor.result ≡ n = length-both bit_xor v.d _ _ v.full.3 la c.xor.ensures in
    let ld : length c.rotated_row-d.result ≡ n = length-each (λ (y : ℕ). rotate_right w32 y c.args.r) _ _ lx c.rotated_row-d.ensures in
    let lc : length c.sum-c.result ≡ n = length-both add32 v.c _ _ v.full.2 ld c.sum-c.ensures in
    let ly : length c.xor-2.result ≡ n = length-both bit_xor v.b _ _ v.full.1 lc c.xor-2.ensures in
    half_columns_by_steps (quad_at j v.a) (quad_at j v.b) (quad_at j v.c) (quad_at j v.d) (quad_at j c.args.x.now)
    (quad_at j c.sum.result) (quad_at j c.sum-a.result) (quad_at j c.xor.result) (quad_at j c.rotated_row-d.result)
    (quad_at j c.sum-c.result) (quad_at j c.xor-2.result) (quad_at j c.rotated_row-b.result)
    c.args.r c.args.s refl refl refl refl refl
    (quads-both add32 j v.a v.b _ h v.full.0 v.full.1 c.sum.ensures)
    (quads-both add32 j _ c.args.x.now _ h la0 c.requires.full c.sum-a.ensures)
    (quads-both bit_xor j v.d _ _ h v.full.3 la c.xor.ensures)
    (quads-each (λ (y : ℕ). rotate_right w32 y c.args.r) j _ _ h lx c.rotated_row-d.ensures)
    (quads-both add32 j v.c _ _ h v.full.2 ld c.sum-c.ensures)
    (quads-both bit_xor j v.b _ _ h v.full.1 lc c.xor-2.ensures)
    (quads-each (λ (y : ℕ). rotate_right w32 y c.args.s) j _ _ h ly c.rotated_row-b.ensures)
