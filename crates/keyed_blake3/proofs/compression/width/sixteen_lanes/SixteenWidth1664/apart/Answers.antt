use Rattle.std.proofs.Common.{ℕ, ◌*◌, ◌+◌, ◌++◌, List}
use Rattle.keyed_blake3.proofs.Blake3.Lanes.{picked_at}
use Rattle.keyed_blake3.proofs.compression.width.sixteen_lanes.SixteenWidth1664.apart.Goals as goal

pub returns : goal.returns
returns c = λ j h.
    let both : List ℕ = c.args.left.now ++ c.args.right.now in (
      picked_at (λ k. 2 * k) 16 both c.lanes_of.result j (rw (c.vector.ensures, c.vector-2.ensures) at c.lanes_of.ensures) h,
      picked_at (λ k. 2 * k + 1) 16 both c.lanes_of-2.result j (rw (c.vector.ensures, c.vector-2.ensures) at c.lanes_of-2.ensures) h,
    )
