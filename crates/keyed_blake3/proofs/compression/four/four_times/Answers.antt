use Rattle.std.proofs.Common.{refl, ◌∙◌}
use Rattle.keyed_blake3.proofs.Blake3.Rows.{eight}
use Rattle.keyed_blake3.proofs.Blake3.SharedRows.{both_parts}
use Rattle.keyed_blake3.proofs.compression.four.four_times.Goals as goal

pub returns : goal.returns
returns c = λ j h. both_parts _ _ _ _ (c.each.ensures.quads j h) (c.each-2.ensures.quads j h) ∙ rw (eight c.args.h.now c.told-h) refl
