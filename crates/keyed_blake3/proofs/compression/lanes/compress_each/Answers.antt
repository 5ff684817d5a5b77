use Rattle.std.proofs.Common.{get_or, refl}
use Rattle.keyed_blake3.specs.Steps.Lanes.{lane}
use Rattle.keyed_blake3.proofs.Blake3.Rows.{compress_by_steps}
use Rattle.keyed_blake3.proofs.compression.lanes.compress_each.Goals as goal

pub returns-clause-lanes : goal.returns-clause-lanes
returns-clause-lanes g c = λ j n h low high.
    let len = get_or c.args.lens.now j 0 in
    let f = get_or c.args.flags.now j 0 in
    compress_by_steps (lane j c.args.h.now) (lane j c.args.m.now) n len f _ _ _ _ _ _ _ _ (lane j c.args.m.now) _ _ _ _ _ _ _
    (c.first_state-v.ensures j n h low high) refl (c.round-v.ensures j h) (c.permuted-m.ensures j) (c.round-v-2.ensures j h) (c.permuted-m-2.ensures j)
    (c.round-v-3.ensures j h) (c.permuted-m-3.ensures j) (c.round-v-4.ensures j h) (c.permuted-m-4.ensures j) (c.round-v-5.ensures j h) (c.permuted-m-5.ensures j)
    (c.round-v-6.ensures j h) (c.permuted-m-6.ensures j) (c.round-v-7.ensures j h) (c.folded.ensures.lanes j h)
