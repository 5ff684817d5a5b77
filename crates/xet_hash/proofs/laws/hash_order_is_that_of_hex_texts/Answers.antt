use Rattle.std.proofs.Common.{sym}
use Rattle.xet_hash.proofs.Hash.HexOrder.{hex_text-cmp}
use Rattle.xet_hash.proofs.laws.hash_order_is_that_of_hex_texts.Goals as goal

pub returns : goal.returns
returns c = λ a b ha hb. sym (hex_text-cmp a b ha hb)
