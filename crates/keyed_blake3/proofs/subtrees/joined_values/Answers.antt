use Rattle.std.proofs.Common.{◌+◌, ◌*◌, arith}
use Rattle.keyed_blake3.proofs.Blake3.Subtrees.{beside_left}
use Rattle.keyed_blake3.proofs.subtrees.joined_values.Goals as goal

pub returns-clause-lanes : goal.returns-clause-lanes
returns-clause-lanes g c = λ j h.
    let values = c.args.values.now in
    let size = c.parent_values.ensures.sizes.0 in
    let full = c.requires.full in
    rw (beside_left values values (2 * j) size full (omega (arith, h)), beside_left values values (2 * j + 1) size full (omega (arith, h)))
    at (c.parent_values.ensures.lanes j (omega (arith, h)))
