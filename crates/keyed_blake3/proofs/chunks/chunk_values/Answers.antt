use Rattle.std.proofs.Common.{ℕ, ◌+◌, ◌≤◌, List, arith, get_or, sym, ap, ◌∙◌}
use Rattle.std.proofs.lemmas.Simd.{get_or-replicate}
use Rattle.keyed_blake3.specs.Blake3.{block, blocks_before_last, compress, words_at}
use Rattle.keyed_blake3.specs.Steps.Blocks.{block_flags}
use Rattle.keyed_blake3.specs.Steps.Lanes.{chunk_at, lane}
use Rattle.keyed_blake3.proofs.Blake3.Blocks.{length-chunk_at}
use Rattle.keyed_blake3.proofs.Blake3.ByBlocks.{block_len-whole, value_after-all, value_after-more, value_after-none}
use Rattle.keyed_blake3.proofs.chunks.chunk_values.Goals as goal

pub chain-init : goal.chain-init
chain-init g c = record {
  full = c.key_of_each-h.ensures.full;
  lanes = λ j h. c.key_of_each-h.ensures.lanes j h ∙ value_after-none c.args.key.now _ (chunk_at (get_or c.args.places.now j 0) c.args.chunks.now) 0;
}

pub chain-preserved : goal.chain-preserved
chain-preserved g c = record {
  full = c.values_after-h.ensures.full;
  lanes = λ j h.
      let key = c.args.key.now in
      let n : ℕ = c.chain.n in
      let p : ℕ = get_or c.args.places.now j 0 in
      let i : ℕ = c.args.first + p in
      let chunk : List ℕ = chunk_at p c.args.chunks.now in
      let size = length-chunk_at p c.args.chunks.now (c.requires.places j h) in
      let within : n ≤ blocks_before_last chunk = omega (arith, size) in
      let before : List ℕ = lane j c.chain.h in
      let words : List ℕ = words_at 16 (block chunk n) in
      let halves = c.counters-counters.ensures.lanes j h in
      let len = ap (λ (x : List ℕ). get_or x j 0) c.each-lens.ensures ∙ get_or-replicate g.row.L j 64 0 h in
      let flag = ap (λ (x : List ℕ). get_or x j 0) c.each-flags.ensures ∙ get_or-replicate g.row.L j _ 0 h in
      (rw (len, flag) at (c.values_after-h.ensures.lanes j i h halves.0 halves.1))
      ∙ ap (λ (f : ℕ). compress before words i 64 f) (c.flags_of.ensures chunk size)
      ∙ ap (λ (len : ℕ). compress before words i len (block_flags chunk n 0)) (sym (block_len-whole chunk n size within))
      ∙ value_after-more key i chunk 0 n before within (c.chain.invariant.lanes j h);
}

pub returns-clause-lanes : goal.returns-clause-lanes
returns-clause-lanes g c = λ j h.
    let p : ℕ = get_or c.args.places.now j 0 in
    let size = length-chunk_at p c.args.chunks.now (c.requires.places j h) in
    c.chain.invariant.lanes j h
    ∙ value_after-all c.args.key.now (c.args.first + p) (chunk_at p c.args.chunks.now) 0 c.chain.n (omega (arith, size))
