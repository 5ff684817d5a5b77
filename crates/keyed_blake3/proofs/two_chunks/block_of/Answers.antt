use Rattle.std.proofs.Common.{◌≡◌, ◌+◌, ◌-◌, ◌*◌, ◌<◌, ℕ, length, refl, sym, ap, ◌∙◌, arith}
use Rattle.std.proofs.lemmas.List.{take_rest, length-drop}
use Rattle.keyed_blake3.specs.Blake3.{blocks_before_last, words_at}
use Rattle.keyed_blake3.proofs.Blake3.Blocks.{block_whole}
use Rattle.keyed_blake3.proofs.Blake3.ByBlocks.{block_flags-before, block_flags-last, block_len-before, block_len-last}
use Rattle.keyed_blake3.proofs.two_chunks.block_of.Goals as goal

pub returns-then-n-last_block : goal.returns-then-n-last_block
returns-then-n-last_block c =
    let n = c.args.n in
    let chunk = c.args.chunk.now in
    let less : n < blocks_before_last chunk = omega (arith, c.last_block.ensures) in
    let width : 64 * n + 64 - 64 * n ≡ 64 = omega arith in
    record {
      words = (rw width at c.words.ensures) ∙ ap (words_at 16) (sym (block_whole chunk n (omega arith)));
      counter = refl;
      len = sym (block_len-before chunk n less);
      flags = ap (λ (f : ℕ). 16 + f) c.start_flag.ensures ∙ sym (block_flags-before chunk n c.args.flags less);
    }

pub returns : goal.returns
returns c =
    let n = c.args.n in
    let chunk = c.args.chunk.now in
    let last : n ≡ blocks_before_last chunk = omega (arith, c.last_block.ensures) in
    let rest = take_rest chunk (64 * n) in
    record {
      words = rw rest at c.filled_words.ensures;
      counter = refl;
      len = ap length rest ∙ length-drop (64 * n) chunk ∙ sym (block_len-last chunk n last);
      flags = ap (λ (f : ℕ). 16 + f + 2 + c.args.flags) c.start_flag-2.ensures ∙ sym (block_flags-last chunk n c.args.flags last);
    }
