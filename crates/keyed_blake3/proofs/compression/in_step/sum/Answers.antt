use Rattle.keyed_blake3.specs.Blake3.{add32}
use Rattle.keyed_blake3.proofs.Blake3.InStep.{both_row, both_row_full}
use Rattle.keyed_blake3.proofs.compression.in_step.sum.Goals as goal

pub invariant_of-result : goal.invariant_of-result
invariant_of-result g c =
    record { full = both_row_full add32 c.args.x.now c.args.y.now _ _ _ _ c.sum.ensures c.sum-2.ensures c.sum-3.ensures c.sum-4.ensures }

pub returns : goal.returns
returns g c = λ j h. both_row add32 j c.args.x.now c.args.y.now _ _ _ _ h c.sum.ensures c.sum-2.ensures c.sum-3.ensures c.sum-4.ensures
