use Rattle.std.proofs.Common.{◌∙◌}
use Rattle.keyed_blake3.proofs.Blake3.Blocks.{row_words}
use Rattle.keyed_blake3.proofs.compression.width.four_lanes.FourWidth416.row.Goals as goal

pub returns : goal.returns
returns c = c.lanes_of.ensures ∙ row_words 4 c.args.bytes.now c.type_inv.bytes c.requires
