use Rattle.std.proofs.Common.{◌≡◌, ◌+◌, ◌∙◌, ap, arith}
use Rattle.keyed_blake3.specs.Steps.Blocks.{value_after}
use Rattle.keyed_blake3.proofs.Blake3.ByBlocks.{value_after-none}
use Rattle.keyed_blake3.proofs.two_chunks.two_chunk_values.Goals as goal

pub chain-init : goal.chain-init
chain-init c =
    let key = c.args.key.now in
    record {
      first = c.both-h.ensures.first ∙ value_after-none key c.args.counters.0 c.args.first.now c.args.flags;
      second = c.both-h.ensures.second ∙ value_after-none key c.args.counters.1 c.args.second.now c.args.flags;
    }

pub chain-preserved : goal.chain-preserved
chain-preserved c =
    let key = c.args.key.now in
    record { first = c.take_blocks-h.ensures.first key c.chain.invariant.first; second = c.take_blocks-h.ensures.second key c.chain.invariant.second }

pub returns : goal.returns
returns c =
    let key = c.args.key.now in
    let end : c.chain.n ≡ c.min-blocks.result + 1 = omega arith in
    record {
      first = c.value_from.ensures key
          (c.apart.ensures.first ∙ c.chain.invariant.first ∙ ap (value_after key c.args.counters.0 c.args.first.now c.args.flags) end);
      second = c.value_from-2.ensures key
          (c.apart.ensures.second ∙ c.chain.invariant.second ∙ ap (value_after key c.args.counters.1 c.args.second.now c.args.flags) end);
    }
