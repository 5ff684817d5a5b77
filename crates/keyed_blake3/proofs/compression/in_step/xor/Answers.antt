use Rattle.std.proofs.Common.{bit_xor}
use Rattle.keyed_blake3.proofs.Blake3.InStep.{both_row, both_row_full}
use Rattle.keyed_blake3.proofs.compression.in_step.xor.Goals as goal

pub invariant_of-result : goal.invariant_of-result
invariant_of-result g c =
    record { full = both_row_full bit_xor c.args.x.now c.args.y.now _ _ _ _ c.xor.ensures c.xor-2.ensures c.xor-3.ensures c.xor-4.ensures }

pub returns : goal.returns
returns g c = λ j h. both_row bit_xor j c.args.x.now c.args.y.now _ _ _ _ h c.xor.ensures c.xor-2.ensures c.xor-3.ensures c.xor-4.ensures
