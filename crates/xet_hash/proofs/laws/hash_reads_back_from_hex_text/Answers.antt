use Rattle.std.proofs.Common.{◌∙◌}
use Rattle.xet_hash.proofs.Hash.Laws.{IsHexText-hex_text, hex_text-injective}
use Rattle.xet_hash.proofs.laws.hash_reads_back_from_hex_text.Goals as goal

pub returns : goal.returns
returns c = λ words answer h ha e. hex_text-injective answer words ha h (e ∙ (IsHexText-hex_text words h).1)
