use Rattle.std.proofs.Common.{List, ℕ, ◌+◌, length, ap, sym, ◌∙◌}
use Rattle.keyed_blake3.specs.Blake3.{chunk_end_flag, compress, keyed_hash_flag, start_flag, words_at}
use Rattle.keyed_blake3.proofs.Blake3.Blocks.{block_filled, block_of_whole}
use Rattle.keyed_blake3.proofs.chunk.last_value.Goals as goal

pub returns-then-rest-eq-BLOCK_LEN : goal.returns-then-rest-eq-BLOCK_LEN
returns-then-rest-eq-BLOCK_LEN c =
    rw (block_of_whole c.args.rest.now c.if-rest-eq-BLOCK_LEN.true, c.if-rest-eq-BLOCK_LEN.true, ← c.start_flag.ensures) c.compress_block.ensures

pub returns : goal.returns
returns c =
    (rw (c.copy_from_slice.ensures.after, c.start_flag.ensures) at c.compress_block-2.ensures)
    ∙ ap (λ (b : List ℕ). compress c.args.h.now (words_at 16 b) c.args.counter (length c.args.rest.now) (keyed_hash_flag + start_flag c.args.place + chunk_end_flag + c.args.flags))
    (sym (block_filled c.args.rest.now c.requires.block))
