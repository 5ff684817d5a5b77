use Rattle.std.proofs.Common.{◌≡◌, ℕ, ◌<◌, ◌≤◌, [], get_or, length, take, ◌∙◌, arith}
use Rattle.keyed_blake3.specs.Blake3.{block, blocks_before_last}
use Rattle.keyed_blake3.specs.Steps.Messages.{message_in}
use Rattle.keyed_blake3.proofs.Blake3.Slots.{AreSlots-set, set_cases}
use Rattle.keyed_blake3.proofs.slots.fill_last_blocks.Goals as goal

pub messages-preserved : goal.messages-preserved
messages-preserved g c =
    let n : ℕ = g.row.N in
    let j = c.messages.j in
    let lens = c.args.lens.now in
    let len = get_or lens j 0 in
    let slots = c.messages.slots in
    let slot = c.fill_last_block.new.slot in
    let inv = c.messages.invariant in
    let fits : j < n = omega (arith, inv.slots.few) in
    let room : j < length slots = omega (arith, inv.slots.count) in
    let size : length slot ≡ 1024 = c.fill_last_block.ensures.size in
    record {
      slots = AreSlots-set n slots lens j slot inv.slots fits size;
      messages = λ i h. set_cases (λ i x. take (get_or lens i 0) x ≡ message_in c.args.slots.now lens i) [] slots j slot room
          (c.fill_last_block.ensures.message ∙ inv.messages j c.messages-test.true) i (λ _. inv.messages i h);
      filled = λ i h. set_cases (λ i x. (n : ℕ) → n ≤ blocks_before_last (take (get_or lens i 0) x) → block x n ≡ block (take (get_or lens i 0) x) n) [] slots j slot room
          (λ n within. rw c.fill_last_block.ensures.message (c.fill_last_block.ensures.filled n (rw (← c.fill_last_block.ensures.message) within))) i (λ other. inv.filled i (omega arith));
    }
