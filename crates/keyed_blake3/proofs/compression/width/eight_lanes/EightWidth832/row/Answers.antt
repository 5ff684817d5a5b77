use Rattle.std.proofs.Common.{◌∙◌}
use Rattle.keyed_blake3.proofs.Blake3.Blocks.{row_words}
use Rattle.keyed_blake3.proofs.compression.width.eight_lanes.EightWidth832.row.Goals as goal

pub returns : goal.returns
returns c = c.lanes_of.ensures ∙ row_words 8 c.args.bytes.now c.type_inv.bytes c.requires
