use Rattle.std.proofs.Common.{arith, inl, inr, ◌∙◌}
use Rattle.std.proofs.lemmas.Bool.{cases_lt}
use Rattle.keyed_blake3.proofs.keyed_hash_slots.Goals as goal

pub messages-preserved : goal.messages-preserved
messages-preserved c = record {
  within = c.hash_next-done.ensures.more.1;
  slots = c.messages.invariant.slots;
  filled = c.messages.invariant.filled;
  hashes = λ i h. elim (cases_lt i c.messages.done) [
    | inl before ↦ c.hash_next-done.ensures.before i before ∙ c.messages.invariant.hashes i before
    | inr after ↦ c.hash_next-done.ensures.hashes i after h
  ];
}

pub fill_last_blocks-requires : goal.fill_last_blocks-requires
fill_last_blocks-requires c =
    (omega arith, record { count = c.told-slots; sizes = c.requires.sizes; few = c.requires.few; short = c.requires.short })
