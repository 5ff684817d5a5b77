use Rattle.std.proofs.Common.{ℕ, List, get_or, ap, ◌∙◌}
use Rattle.std.proofs.lemmas.Simd.{get_or-replicate}
use Rattle.keyed_blake3.proofs.subtrees.values_of_parents.Goals as goal

pub returns-clause-lanes : goal.returns-clause-lanes
returns-clause-lanes g c = λ j h.
    let len = ap (λ (x : List ℕ). get_or x j 0) c.each-lens.ensures ∙ get_or-replicate g.row.L j 64 0 h in
    let flag = ap (λ (x : List ℕ). get_or x j 0) c.each-flags.ensures ∙ get_or-replicate g.row.L j 20 0 h in
    rw (len, flag, c.key_of_each-values.ensures.lanes j h) at (c.take_in_each.ensures.lanes j h)
