use Rattle.std.proofs.Common.{arith, inl, inr, ◌∙◌}
use Rattle.std.proofs.lemmas.Bool.{cases_lt}
use Rattle.keyed_blake3.proofs.keyed_hash_each.Goals as goal

pub messages-preserved : goal.messages-preserved
messages-preserved g c = record {
  within = c.hash_next-done.ensures.more.1;
  hashes = λ i h. elim (cases_lt i c.messages.done) [
    | inl before ↦ c.hash_next-done.ensures.before i before ∙ c.messages.invariant.hashes i before
    | inr after ↦ c.hash_next-done.ensures.hashes i after h
  ];
  past = λ i after fits. c.hash_next-done.ensures.after i after ∙ c.messages.invariant.past i (omega (arith, c.hash_next-done.ensures.more)) fits;
}
