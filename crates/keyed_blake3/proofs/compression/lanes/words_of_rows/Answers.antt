use Rattle.keyed_blake3.proofs.Blake3.InStep.{eight_full_of}
use Rattle.keyed_blake3.proofs.compression.lanes.words_of_rows.Goals as goal

pub returns-clause-full : goal.returns-clause-full
returns-clause-full g c =
    let x = c.args.x.now in
    let y = c.args.y.now in
    eight_full_of x.w0 x.w1 x.w2 x.w3 y.w0 y.w1 y.w2 y.w3 x.full.0 x.full.1 x.full.2 x.full.3 y.full.0 y.full.1 y.full.2 y.full.3
