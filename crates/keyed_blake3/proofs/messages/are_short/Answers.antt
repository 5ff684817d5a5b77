use Rattle.std.proofs.Common.{◌≤◌, length, arith}
use Rattle.keyed_blake3.proofs.Blake3.Messages.{each_more}
use Rattle.keyed_blake3.proofs.messages.are_short.Goals as goal

pub messages-preserved : goal.messages-preserved
messages-preserved c = each_more (λ m. length m ≤ 1024) c.args.messages.now c.messages.j (omega arith) c.messages.invariant (omega arith)
