use Rattle.std.proofs.Common.{◌≡◌, ℕ, ◌+◌, ◌*◌, ◌∙◌}
use Rattle.keyed_blake3.specs.Blake3.{parent_value}
use Rattle.keyed_blake3.specs.Steps.Lanes.{lane}
use Rattle.keyed_blake3.proofs.Blake3.Subtrees.{two_lanes}
use Rattle.keyed_blake3.proofs.subtrees.two_parent_values.Goals as goal

pub returns-clause-lanes : goal.returns-clause-lanes
unfolding parent_value
returns-clause-lanes g c =
    let key = c.args.key.now in
    let values = c.args.values.now in
    let x = c.parent_block-first.ensures in
    let y = c.parent_block-second.ensures in
    two_lanes (λ (j : ℕ). lane j c.lanes_of_two.result ≡ parent_value key (lane (2 * j) values) (lane (2 * j + 1) values) 0)
    (c.lanes_of_two.ensures.first ∙ c.apart.ensures.first
    ∙ (rw (c.both.ensures.first, x.words, x.counter, x.len, x.flags, c.lane.ensures, c.lane-2.ensures) at c.compress_two.ensures.first))
    (c.lanes_of_two.ensures.second ∙ c.apart.ensures.second
    ∙ (rw (c.both.ensures.second, y.words, y.counter, y.len, y.flags, c.lane-3.ensures, c.lane-4.ensures) at c.compress_two.ensures.second))
