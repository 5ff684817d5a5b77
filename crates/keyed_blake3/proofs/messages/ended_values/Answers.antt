use Rattle.std.proofs.Common.{◌≡◌, ℕ, ◌+◌, ◌<◌, ◌≤◌, List, inl, inr, get_or, length, ap, ◌∙◌, arith}
use Rattle.std.proofs.lemmas.Bool.{cases_lt}
use Rattle.std.proofs.lemmas.List.{length-replicate}
use Rattle.std.proofs.lemmas.Simd.{get_or-replicate}
use Rattle.keyed_blake3.specs.Blake3.{blocks_before_last, words_at}
use Rattle.keyed_blake3.specs.Steps.Blocks.{value_after}
use Rattle.keyed_blake3.specs.Steps.Lanes.{lane}
use Rattle.keyed_blake3.specs.Steps.Messages.{HasMessage}
use Rattle.keyed_blake3.proofs.Blake3.ByBlocks.{value_after-all, value_after-more, value_after-none}
use Rattle.keyed_blake3.proofs.messages.ended_values.Goals as goal

pub chain-init : goal.chain-init
chain-init g c = record {
  full = c.key_of_each-h.ensures.full;
  ended_full = c.key_of_each-h.ensures.full;
  lanes = λ j m h _ _. c.key_of_each-h.ensures.lanes j h ∙ c.words.ensures ∙ value_after-none (words_at 8 c.args.key.now) 0 m 8;
  ended = λ j m h _ less. absurd (omega arith);
}

pub chain-preserved : goal.chain-preserved
chain-preserved g c =
    let n = c.chain.n in
    let inv = c.chain.invariant in
    let key : List ℕ = words_at 8 c.args.key.now in
    let zero_at : (j : ℕ) → j < g.row.L → get_or c.each-zero.result j 0 ≡ 0 = λ j h.
    ap (λ (x : List ℕ). get_or x j 0) c.each-zero.ensures ∙ get_or-replicate g.row.L j 0 0 h in
    let taken : (j : ℕ) (m : List ℕ) → j < g.row.L → HasMessage c.args.chunks.now c.args.places.now c.args.last.now c.args.rest.now j m
    → n ≤ blocks_before_last m → lane j c.take_block.new.h ≡ value_after key 0 m 8 (n + 1) = λ j m h has within.
    let taken_in = c.take_block.ensures.lanes j 0 h (zero_at j h) (zero_at j h) in
    let with = c.lens_and_flags-lens.ensures.lanes j m h within has.last_block has.in_last in
    (rw (has.blocks n within, with.0, with.1) at taken_in) ∙ value_after-more key 0 m 8 n (lane j c.chain.h) within (inv.lanes j m h has (omega arith)) in
    record {
      full = c.take_block.ensures.full;
      ended_full = c.all_kept-ended.ensures.full;
      lanes = λ j m h has within. taken j m h has (omega arith);
      ended = λ j m h has less. elim (cases_lt (blocks_before_last m) n) [
        | inl before ↦ c.all_kept-ended.ensures.others j h (λ e. omega (arith, has.last_block)) ∙ inv.ended j m h has before
        | inr past ↦
            c.all_kept-ended.ensures.kept j h (omega (arith, has.last_block)) ∙ taken j m h has (omega arith)
            ∙ value_after-all key 0 m 8 (n + 1) less
      ];
    }

pub take_block-requires : goal.take_block-requires
take_block-requires g c =
    let l : ℕ = g.row.L in
    let most = g.met.W.Width.lanes in
    let size : length c.each-zero.result ≡ l = ap length c.each-zero.ensures ∙ length-replicate l 0 in
    let lens = c.lens_and_flags-lens.ensures.full in
    (omega (arith, most), (omega (arith, most), (omega (arith, most), (c.chain.invariant.full, (c.requires.places, (omega arith, ((size, size), (lens.0, lens.1))))))))
