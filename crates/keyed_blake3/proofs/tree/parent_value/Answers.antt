use Rattle.std.proofs.Common.{List, ℕ, ◌+◌, ap, ◌∙◌}
use Rattle.keyed_blake3.specs.Blake3.{compress, parent_value}
use Rattle.keyed_blake3.proofs.Blake3.Blocks.{pair_of}
use Rattle.keyed_blake3.proofs.tree.parent_value.Goals as goal

pub returns : goal.returns
unfolding parent_value
returns c =
    (rw (c.copy_from_slice.ensures.after, c.copy_from_slice-2.ensures.after) at c.compress.ensures)
    ∙ ap (λ (m : List ℕ). compress c.args.key.now m 0 64 (20 + c.args.flags)) (pair_of c.args.left.now c.args.right.now c.told-left c.told-right)
