use Rattle.std.proofs.Common.{◌≡◌, ℕ, ◌+◌, ◌-◌, ◌*◌, length, List, inl, inr, get_or, replicate, sym, ap, ◌∙◌, arith}
use Rattle.std.proofs.lemmas.Bool.{cases_lt}
use Rattle.std.proofs.lemmas.Simd.{get_or-replicate}
use Rattle.keyed_blake3.specs.Blake3.{blocks_before_last}
use Rattle.keyed_blake3.proofs.Blake3.ByBlocks.{block_flags-before, block_flags-last, block_len-before, block_len-last}
use Rattle.keyed_blake3.proofs.messages.lens_and_flags.Goals as goal

pub returns-clause-lanes : goal.returns-clause-lanes
returns-clause-lanes g c = λ j m h within is_last is_rest.
    let l : ℕ = g.row.L in
    let n = c.args.n in
    let at_j : (x : ℕ) (v : List ℕ) → v ≡ replicate l x → get_or v j 0 ≡ x = λ x v e. ap (λ (v : List ℕ). get_or v j 0) e ∙ get_or-replicate l j x 0 h in
    elim (cases_lt n (blocks_before_last m)) [
      | inl less ↦
          let other : get_or c.args.last.now j 0 ≡ n → _ = λ e. omega arith in (
            c.chosen.ensures.no j h other ∙ at_j _ c.each.result c.each.ensures ∙ sym (block_len-before m n less),
            c.chosen-2.ensures.no j h other ∙ at_j _ c.each-3.result c.each-3.ensures ∙ ap (λ (f : ℕ). 16 + f) c.start_flag-flags.ensures ∙ sym (block_flags-before m n 8 less),
          )
      | inr past ↦
          let same : n ≡ blocks_before_last m = omega arith in
          let here : get_or c.args.last.now j 0 ≡ n = is_last ∙ sym same in (
            c.chosen.ensures.yes j h here ∙ is_rest ∙ ap (λ (k : ℕ). length m - 64 * k) (sym same) ∙ sym (block_len-last m n same),
            c.chosen-2.ensures.yes j h here ∙ at_j _ c.each-2.result c.each-2.ensures ∙ ap (λ (f : ℕ). 16 + f + 2 + 8) c.start_flag-flags.ensures ∙ sym (block_flags-last m n 8 same),
          )
    ]
