use Rattle.keyed_blake3.proofs.chunks.values_after.Goals as goal

pub returns-clause-lanes : goal.returns-clause-lanes
returns-clause-lanes g c = λ j n h low high. rw (c.block_of_each-words.ensures j h) at (c.compress_each.ensures.lanes j n h low high)
