use Rattle.std.proofs.Common.{ℕ, ◌+◌, ◌≤◌, List, get_or, sym, ap, arith, ◌∙◌}
use Rattle.keyed_blake3.specs.Blake3.{block, blocks_before_last, compress, words_at}
use Rattle.keyed_blake3.specs.Steps.Blocks.{block_flags}
use Rattle.keyed_blake3.specs.Steps.Lanes.{chunk_at}
use Rattle.keyed_blake3.specs.Steps.Rows.{quad_at, value_in}
use Rattle.keyed_blake3.proofs.Blake3.Blocks.{length-chunk_at}
use Rattle.keyed_blake3.proofs.Blake3.ByBlocks.{block_len-whole, value_after-all, value_after-more, value_after-none}
use Rattle.keyed_blake3.proofs.four_chunks.four_chunk_values.Goals as goal

pub chain-init : goal.chain-init
chain-init c = record { values = λ j h. c.four_times-h.ensures j h ∙ value_after-none c.args.key.now _ (chunk_at (get_or c.args.places.now j 0) c.args.chunks.now) 0 }

pub chain-preserved : goal.chain-preserved
chain-preserved c = record {
  values = λ j h.
      let key = c.args.key.now in
      let n : ℕ = c.chain.n in
      let p : ℕ = get_or c.args.places.now j 0 in
      let i : ℕ = c.args.first + p in
      let chunk : List ℕ = chunk_at p c.args.chunks.now in
      let size = length-chunk_at p c.args.chunks.now (c.requires.places j h) in
      let within : n ≤ blocks_before_last chunk = omega (arith, size) in
      let before : List ℕ = value_in j c.chain.h in
      let words : List ℕ = words_at 16 (block chunk n) in
      c.compress_all-h.ensures j i 64 c.flags_of.result h (ap (quad_at j) c.lanes_of-d.ensures ∙ c.last_rows.ensures j h)
      ∙ ap (λ (m : List ℕ). compress before m i 64 c.flags_of.result) (c.blocks_of-m.ensures j h)
      ∙ ap (λ (f : ℕ). compress before words i 64 f) (c.flags_of.ensures chunk size)
      ∙ ap (λ (len : ℕ). compress before words i len (block_flags chunk n 0)) (sym (block_len-whole chunk n size within))
      ∙ value_after-more key i chunk 0 n before within (c.chain.invariant.values j h);
}

pub returns-clause-lanes : goal.returns-clause-lanes
returns-clause-lanes c = λ j h.
    let p : ℕ = get_or c.args.places.now j 0 in
    let size = length-chunk_at p c.args.chunks.now (c.requires.places j h) in
    c.lanes_of_values.ensures.lanes j h ∙ c.chain.invariant.values j h
    ∙ value_after-all c.args.key.now (c.args.first + p) (chunk_at p c.args.chunks.now) 0 c.chain.n (omega (arith, size))
