use Rattle.std.proofs.Common.{◌≡◌, ◌<◌, ◌∷◌, [], ℕ, ap, subst, ◌∙◌}
use Rattle.std.proofs.lemmas.List.{get_or_default}
use Rattle.xet_hash.specs.Hash.{bytes_of, hash_of}
use Rattle.xet_hash.proofs.Hash.Laws.{bytes_of-hash_of}
use Rattle.xet_hash.proofs.Hash.Lemmas.{le_word, same_four}
use Rattle.xet_hash.proofs.data_hash.DataHashFromRefArrayU832.from.Goals as goal

pub returns : goal.returns
unfolding hash_of
returns c =
    let bytes = c.args.bytes.now in
    let is : c.from_le_bytes.result ∷ c.from_le_bytes-2.result ∷ c.from_le_bytes-3.result ∷ c.from_le_bytes-4.result ∷ [] ≡ hash_of bytes =
    same_four _ _ _ _ _ _ _ _
    (le_word bytes c.word_bytes.result 0 _ c.word_bytes.ensures c.from_le_bytes.ensures)
    (le_word bytes c.word_bytes-2.result 1 _ c.word_bytes-2.ensures c.from_le_bytes-2.ensures)
    (le_word bytes c.word_bytes-3.result 2 _ c.word_bytes-3.ensures c.from_le_bytes-3.ensures)
    (le_word bytes c.word_bytes-4.result 3 _ c.word_bytes-4.ensures c.from_le_bytes-4.ensures) in (
      is,
      ap bytes_of is ∙ bytes_of-hash_of bytes
          (c.told-bytes, λ k d below. subst (λ (b : ℕ). b < 256) (get_or_default bytes k 0 d below) (c.fits-bytes k)),
    )
