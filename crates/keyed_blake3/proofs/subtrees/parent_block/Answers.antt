use Rattle.keyed_blake3.proofs.Blake3.Blocks.{pair_of}
use Rattle.keyed_blake3.proofs.subtrees.parent_block.Goals as goal

pub returns-clause-words : goal.returns-clause-words
returns-clause-words c =
    rw (c.copy_from_slice-2.ensures.after, c.copy_from_slice.ensures.after) (pair_of c.args.left.now c.args.right.now c.told-left c.told-right)
