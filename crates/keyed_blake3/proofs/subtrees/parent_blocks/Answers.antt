use Rattle.std.proofs.Common.{◌+◌, ◌*◌, ap, ◌∙◌}
use Rattle.keyed_blake3.specs.Steps.Rows.{quad_at}
use Rattle.keyed_blake3.proofs.Blake3.Lanes.{lane_read}
use Rattle.keyed_blake3.proofs.Blake3.SharedRows.{both_parts}
use Rattle.keyed_blake3.proofs.subtrees.parent_blocks.Goals as goal

pub returns : goal.returns
returns g c = λ j h.
    let values = c.args.values.now in
    let x = c.of_neighbours.ensures in
    let y = c.of_neighbours-2.ensures in
    c.quads.ensures j h
    ∙ both_parts _ _ _ _ (ap (quad_at j) c.lanes_of.ensures ∙ x.even j h)
    (both_parts _ _ _ _ (ap (quad_at j) c.lanes_of-2.ensures ∙ y.even j h)
    (both_parts _ _ _ _ (ap (quad_at j) c.lanes_of-3.ensures ∙ x.odd j h) (ap (quad_at j) c.lanes_of-4.ensures ∙ y.odd j h)))
    ∙ both_parts _ _ _ _ (lane_read (2 * j) values c.told-values) (lane_read (2 * j + 1) values c.told-values)
