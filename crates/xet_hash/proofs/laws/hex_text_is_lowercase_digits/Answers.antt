use Rattle.xet_hash.proofs.Hash.Laws.{IsHexText-hex_text}
use Rattle.xet_hash.proofs.laws.hex_text_is_lowercase_digits.Goals as goal

pub returns-clause-digits : goal.returns-clause-digits
returns-clause-digits c = λ words h. (IsHexText-hex_text words h).0

pub returns-clause-lowercase : goal.returns-clause-lowercase
returns-clause-lowercase c = λ words h. (IsHexText-hex_text words h).1
