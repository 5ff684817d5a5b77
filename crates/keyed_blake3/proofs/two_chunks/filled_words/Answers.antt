use Rattle.std.proofs.Common.{ap, sym, ◌∙◌}
use Rattle.keyed_blake3.specs.Blake3.{words_at}
use Rattle.keyed_blake3.proofs.Blake3.Blocks.{block_filled, block_of_whole}
use Rattle.keyed_blake3.proofs.two_chunks.filled_words.Goals as goal

pub returns-then-rest-eq-BLOCK_LEN : goal.returns-then-rest-eq-BLOCK_LEN
returns-then-rest-eq-BLOCK_LEN c = c.words.ensures ∙ ap (words_at 16) (sym (block_of_whole c.args.rest.now c.if-rest-eq-BLOCK_LEN.true))

pub returns : goal.returns
returns c = (rw c.copy_from_slice.ensures.after at c.words-2.ensures) ∙ ap (words_at 16) (sym (block_filled c.args.rest.now c.requires))
