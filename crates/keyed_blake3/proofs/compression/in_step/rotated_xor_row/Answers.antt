use Rattle.std.proofs.Common.{refl}
use Rattle.keyed_blake3.specs.Steps.LaneRows.{words_of_bytes}
use Rattle.keyed_blake3.proofs.Blake3.InStep.{rotated_xor_at}
use Rattle.keyed_blake3.proofs.Blake3.LaneBytes.{length-words}
use Rattle.keyed_blake3.proofs.compression.in_step.rotated_xor_row.Goals as goal

pub returns : goal.returns
returns g c = λ j h.
    let x = c.args.x.now in
    let y = c.args.y.now in
    rw (
      rotated_xor_at j c.args.n (words_of_bytes g.row.L x.w0) y.w0 _ h (length-words g.row.L x.w0) y.full.0 c.rotated_xor.ensures,
      rotated_xor_at j c.args.n (words_of_bytes g.row.L x.w1) y.w1 _ h (length-words g.row.L x.w1) y.full.1 c.rotated_xor-2.ensures,
      rotated_xor_at j c.args.n (words_of_bytes g.row.L x.w2) y.w2 _ h (length-words g.row.L x.w2) y.full.2 c.rotated_xor-3.ensures,
      rotated_xor_at j c.args.n (words_of_bytes g.row.L x.w3) y.w3 _ h (length-words g.row.L x.w3) y.full.3 c.rotated_xor-4.ensures,
    ) refl
