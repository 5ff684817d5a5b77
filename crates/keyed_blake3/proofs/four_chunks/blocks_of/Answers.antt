use Rattle.std.proofs.Common.{ℕ, ◌+◌, ◌*◌, get_or, refl, ap, ◌∙◌, arith}
use Rattle.keyed_blake3.specs.Blake3.{block, words_at}
use Rattle.keyed_blake3.specs.Steps.Lanes.{chunk_at}
use Rattle.keyed_blake3.specs.Steps.Rows.{quad_at}
use Rattle.keyed_blake3.proofs.Blake3.FourRows.{quad_of_block, words_by_fours}
use Rattle.keyed_blake3.proofs.Blake3.SharedRows.{both_parts}
use Rattle.keyed_blake3.proofs.four_chunks.blocks_of.Goals as goal

pub returns : goal.returns
unfolding words_at
returns c = λ j h.
    let bytes = c.args.chunks.now in
    let n = c.args.n in
    let p : ℕ = get_or c.args.places.now j 0 in
    let quad = quad_of_block bytes p n (c.requires.places j h) c.requires.block in
    c.quads.ensures j h
    ∙ both_parts _ _ _ _ (ap (quad_at j) c.lanes_of.ensures ∙ c.quads_from.ensures.quads j h ∙ quad (64 * n) 0 0 (omega arith) refl (omega arith))
    (both_parts _ _ _ _ (ap (quad_at j) c.lanes_of-2.ensures ∙ c.quads_from-2.ensures.quads j h ∙ quad (64 * n + 16) 16 4 refl refl (omega arith))
    (both_parts _ _ _ _ (ap (quad_at j) c.lanes_of-3.ensures ∙ c.quads_from-3.ensures.quads j h ∙ quad (64 * n + 32) 32 8 refl refl (omega arith))
    (ap (quad_at j) c.lanes_of-4.ensures ∙ c.quads_from-4.ensures.quads j h ∙ quad (64 * n + 48) 48 12 refl refl (omega arith))))
    ∙ words_by_fours (block (chunk_at p bytes) n)
