use Rattle.std.proofs.Common.{ap, ◌∙◌}
use Rattle.xet_hash.specs.Hash.{hex_text}
use Rattle.xet_hash.proofs.Hash.HexText.{be_words, hex_text-be_words}
use Rattle.xet_hash.proofs.Hash.Lemmas.{be_word, same_four}
use Rattle.xet_hash.proofs.data_hash.DataHash.from_text_bytes.Goals as goal

pub returns-clause-text : goal.returns-clause-text
unfolding be_words
returns-clause-text c =
    let bytes = c.args.bytes.now in
    ap hex_text (same_four _ _ _ _ _ _ _ _
    (be_word bytes c.word_bytes.result 0 _ c.word_bytes.ensures c.from_be_bytes.ensures)
    (be_word bytes c.word_bytes-2.result 1 _ c.word_bytes-2.ensures c.from_be_bytes-2.ensures)
    (be_word bytes c.word_bytes-3.result 2 _ c.word_bytes-3.ensures c.from_be_bytes-3.ensures)
    (be_word bytes c.word_bytes-4.result 3 _ c.word_bytes-4.ensures c.from_be_bytes-4.ensures))
    ∙ hex_text-be_words bytes c.told-bytes c.fits-bytes
