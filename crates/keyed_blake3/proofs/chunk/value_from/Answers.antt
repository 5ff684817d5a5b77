use Rattle.std.proofs.Common.{◌≡◌, ◌+◌, ◌-◌, ◌*◌, refl, sym, ◌∙◌, arith}
use Rattle.std.proofs.lemmas.List.{take_rest, length-drop}
use Rattle.keyed_blake3.specs.Blake3.{blocks_before_last, chunk_value}
use Rattle.keyed_blake3.proofs.Blake3.Blocks.{after_blocks_next}
use Rattle.keyed_blake3.proofs.Blake3.ByBlocks.{value_after-all, value_after-before}
use Rattle.keyed_blake3.proofs.chunk.value_from.Goals as goal

pub returns-then-blocks-last : goal.returns-then-blocks-last
returns-then-blocks-last c = λ key e.
    e ∙ value_after-all key c.args.counter c.args.chunk.now c.args.flags c.args.blocks (omega (arith, c.last_block-last.ensures))

pub chain-init : goal.chain-init
chain-init c = λ key e.
    e ∙ value_after-before key c.args.counter c.args.chunk.now c.args.flags c.args.blocks (omega (arith, c.last_block-last.ensures))

pub chain-preserved : goal.chain-preserved
chain-preserved c = λ key e.
    let width : 64 * c.chain.n + 64 - 64 * c.chain.n ≡ 64 = omega arith in
    let last = c.last_block-last.ensures in
    rw (c.compress_block-value.ensures, width, c.start_flag-block_flags.ensures, c.chain.invariant key e)
    (sym (after_blocks_next key c.args.counter c.args.chunk.now c.chain.n (omega arith)))

pub returns : goal.returns
unfolding chunk_value
returns c = λ key e.
    let end = c.last_block-last.ensures in
    let last : c.chain.n ≡ blocks_before_last c.args.chunk.now = omega (arith, end) in
    rw (c.last_value.ensures, c.chain.invariant key e, end, last, take_rest c.args.chunk.now (64 * blocks_before_last c.args.chunk.now), length-drop (64 * blocks_before_last c.args.chunk.now) c.args.chunk.now) refl
