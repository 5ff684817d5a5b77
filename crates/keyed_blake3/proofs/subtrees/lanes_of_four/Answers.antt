use Rattle.keyed_blake3.proofs.Blake3.Lanes.{lane_read}
use Rattle.keyed_blake3.proofs.subtrees.lanes_of_four.Goals as goal

pub returns-clause-lanes : goal.returns-clause-lanes
returns-clause-lanes g c = λ j h.
    rw (c.of_four.ensures.lanes j h, c.of_four-2.ensures.lanes j h, c.of_four-3.ensures.lanes j h, c.of_four-4.ensures.lanes j h, c.of_four-5.ensures.lanes j h, c.of_four-6.ensures.lanes j h, c.of_four-7.ensures.lanes j h, c.of_four-8.ensures.lanes j h)
    (lane_read j c.args.x.now c.told-x)
