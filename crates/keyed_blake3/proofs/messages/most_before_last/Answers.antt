use Rattle.std.proofs.Common.{◌≤◌, arith}
use Rattle.keyed_blake3.specs.Blake3.{blocks_before_last}
use Rattle.keyed_blake3.proofs.Blake3.Messages.{each_more, short_at}
use Rattle.keyed_blake3.proofs.messages.most_before_last.Goals as goal

pub messages-preserved : goal.messages-preserved
messages-preserved c =
    let largest = c.max-most.ensures in
    let j = c.messages.j in
    let short = short_at c.args.messages.now j c.requires c.messages-test.true in
    record {
      few = omega (arith, largest, c.messages.invariant.few, c.last_block.ensures);
      most = each_more (λ m. blocks_before_last m ≤ c.max-most.result) c.args.messages.now j c.messages-test.true
          (λ i h. omega (arith, largest, c.messages.invariant.most i h)) (omega (arith, largest, c.last_block.ensures));
    }
