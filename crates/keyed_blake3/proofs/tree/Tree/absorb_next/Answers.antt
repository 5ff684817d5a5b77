use Rattle.std.proofs.Common.{arith, sym}
use Rattle.std.proofs.lemmas.List.{length-take-le}
use Rattle.keyed_blake3.proofs.tree.Tree.absorb_next.Goals as goal

pub slice_bounds-block-end : goal.slice_bounds-block-end
slice_bounds-block-end c = sym (length-take-le 64 c.args.rest.now (omega arith))

pub absorb-requires-clause-block : goal.absorb-requires-clause-block
absorb-requires-clause-block c = length-take-le 64 c.args.rest.now (omega arith)
