use Rattle.std.proofs.Common.{◌≡◌, ℕ, List, slice_index, lit<, sym, ◌∙◌}
use Rattle.std.specs.List.{fold}
use Rattle.xet_hash.specs.Hash.{IsHash}
use Rattle.xet_hash.specs.HashForms.{hash_writes}
use Rattle.passthrough_map.specs.PassthroughHasher.{overwrite_low}
use Rattle.xet_hash.proofs.Hash.Laws.{word_fits}
use Rattle.xet_hash.proofs.laws.passthrough_hasher_hands_word_zero_on.Goals as goal

pub returns-clause-hash : goal.returns-clause-hash
returns-clause-hash c = λ state words is.
    c.passthrough_hasher_hands_numbers_on.ensures.number state (slice_index words 0) (word_fits words 0 is (lit< tt))

pub returns-clause-shared : goal.returns-clause-shared
returns-clause-shared c s t a b is-a is-b =
    let fed : (state : ℕ) (words : List ℕ) → IsHash words → fold overwrite_low state (hash_writes words) ≡ slice_index words 0 = returns-clause-hash c in (
      λ h. sym (fed s a is-a) ∙ h ∙ fed t b is-b,
      λ h. fed s a is-a ∙ h ∙ sym (fed t b is-b),
    )
