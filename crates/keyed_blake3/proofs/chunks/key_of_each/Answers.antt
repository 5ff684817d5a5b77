use Rattle.std.proofs.Common.{◌≡◌, ℕ, ap, length, get_or, replicate, sym, ◌∙◌}
use Rattle.std.proofs.lemmas.List.{length-replicate}
use Rattle.std.proofs.lemmas.Simd.{get_or-replicate}
use Rattle.keyed_blake3.proofs.Blake3.InStep.{eight_full_of}
use Rattle.keyed_blake3.proofs.Blake3.Rows.{eight}
use Rattle.keyed_blake3.proofs.chunks.key_of_each.Goals as goal

pub returns-clause-full : goal.returns-clause-full
returns-clause-full g c =
    eight_full_of _ _ _ _ _ _ _ _ (ap length c.each.ensures ∙ length-replicate _ _) (ap length c.each-2.ensures ∙ length-replicate _ _)
    (ap length c.each-3.ensures ∙ length-replicate _ _) (ap length c.each-4.ensures ∙ length-replicate _ _)
    (ap length c.each-5.ensures ∙ length-replicate _ _) (ap length c.each-6.ensures ∙ length-replicate _ _)
    (ap length c.each-7.ensures ∙ length-replicate _ _) (ap length c.each-8.ensures ∙ length-replicate _ _)

pub returns-clause-lanes : goal.returns-clause-lanes
returns-clause-lanes g c = λ j h.
    let key = c.args.key.now in
    let splat : (x : ℕ) → get_or (replicate g.row.L x) j 0 ≡ x = λ x. get_or-replicate g.row.L j x 0 h in
    rw (
      c.each.ensures,
      c.each-2.ensures,
      c.each-3.ensures,
      c.each-4.ensures,
      c.each-5.ensures,
      c.each-6.ensures,
      c.each-7.ensures,
      c.each-8.ensures,
      splat (get_or key 0 0),
      splat (get_or key 1 0),
      splat (get_or key 2 0),
      splat (get_or key 3 0),
      splat (get_or key 4 0),
      splat (get_or key 5 0),
      splat (get_or key 6 0),
      splat (get_or key 7 0),
    ) (sym (eight key c.told-key))
