use Rattle.keyed_blake3.proofs.Blake3.Lanes.{lane_read}
use Rattle.keyed_blake3.proofs.messages.all_kept.Goals as goal

pub returns-clause-kept : goal.returns-clause-kept
returns-clause-kept g c = λ j h e.
    rw (
      c.chosen.ensures.yes j h e,
      c.chosen-2.ensures.yes j h e,
      c.chosen-3.ensures.yes j h e,
      c.chosen-4.ensures.yes j h e,
      c.chosen-5.ensures.yes j h e,
      c.chosen-6.ensures.yes j h e,
      c.chosen-7.ensures.yes j h e,
      c.chosen-8.ensures.yes j h e,
    ) (lane_read j c.args.h.now c.told-h)

pub returns-clause-others : goal.returns-clause-others
returns-clause-others g c = λ j h e.
    rw (
      c.chosen.ensures.no j h e,
      c.chosen-2.ensures.no j h e,
      c.chosen-3.ensures.no j h e,
      c.chosen-4.ensures.no j h e,
      c.chosen-5.ensures.no j h e,
      c.chosen-6.ensures.no j h e,
      c.chosen-7.ensures.no j h e,
      c.chosen-8.ensures.no j h e,
    ) (lane_read j c.args.ended.now c.told-ended)
