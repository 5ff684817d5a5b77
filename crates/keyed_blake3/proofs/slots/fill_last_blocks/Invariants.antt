use Rattle.std.proofs.Common.{◌≡◌, ℕ, ◌<◌, ◌≤◌, [], get_or, length}
use Rattle.keyed_blake3.specs.Blake3.{block, blocks_before_last}
use Rattle.keyed_blake3.specs.Steps.Messages.{AreSlots, message_in}
use Rattle.keyed_blake3.proofs.slots.fill_last_blocks.Given as goal

abbrev pub invariant-messages : goal.invariant-messages
invariant-messages g l = record {
  slots : AreSlots g.row.N l.slots l.lens;
  messages : (i : ℕ) → i < length l.lens → message_in l.slots l.lens i ≡ message_in l.fn.slots l.lens i;
  filled : (i : ℕ) → i < l.j → (n : ℕ) → n ≤ blocks_before_last (message_in l.slots l.lens i)
      → block (get_or l.slots i []) n ≡ block (message_in l.slots l.lens i) n;
}
